-- What happens to a connection that is open.
use Rattle.std.proofs.Common.{◌≡◌, ℕ, ◌<◌, Bool, true, false, ◌||◌, List, [], ◌∷◌, ◌++◌, ◌⊎◌, inl, inr, Option, Some, refl, sym, ap}
use Rattle.std.proofs.Common.{subst, ◌∙◌, append_assoc, append-nil, map, length, arith, length-append, rules, take, drop}
use Rattle.std.proofs.lemmas.{Bool.cases_Bool, Grind.common_steps}
use Rattle.std.proofs.lemmas.List.Folds.{list_any-append}
use Rattle.std.proofs.Math.Bool.{or-true}
use Rattle.std.proofs.lemmas.List.{map-append}
use Rattle.bq_job.specs.declared.answer.Answer.{Answer}
use Rattle.bq_job.specs.declared.line_end.LineEnd.{LineEnd}
use Rattle.bq_job.specs.declared.line_end.LineFault.{LineFault}
use Rattle.bq_job.specs.declared.request.Request.{Request}
use Rattle.bq_job.specs.reading.Reading.{Reads, IsUnit, is_quit}
use Rattle.bq_job.specs.promise.LineSteps.{AreAllAnswered, IsOverBy, MayTellEnd, answered_count, is_waiting_request, ends_by_wait}
use Rattle.bq_job.specs.machine.OneClient.{has_closed, is_closed_answer}
use Rattle.bq_job.specs.declared.line_end.LineEnd.TheVariants as ends
use Rattle.bq_job.specs.declared.line_end.LineFault.TheVariants as faults
use Rattle.bq_job.specs.declared.request.Request.TheVariants as requests
use Rattle.bq_job.specs.declared.step.Step.TheVariants as steps
use Rattle.bq_job.proofs.ReadsLemmas.{Reads-quit}
use Rattle.bq_job.proofs.UnitsLemmas.{AreUnits-append, ends_by_quit-append}
use Rattle.bq_seat.specs.Past.{Past, with_action, with_mail, with_fault, first_past}
use Rattle.bq_seat.specs.Served.{IsFaultOf, IsLastBroken, IsServed, IsServedToClose}
use Rattle.bq_seat.specs.SeatStands.{IsClosing, IsOpen, IsWaiting, StandsInStage, end_if}
use Rattle.bq_wire.specs.Standing.{Stands, Waits, HandsRequest}
use Rattle.bq_wire.specs.declared.reader.ReaderState.{ReaderState}
use Rattle.bq_seat.specs.SeatParts.{AsksOrReads, GoesOn, IsTaken, asking_stage, holding, in_stage}
use Rattle.bq_wire.specs.declared.reader.Taken.{Taken}
use Rattle.bq_seat.specs.declared.machine.Action.{Action}
use Rattle.bq_seat.specs.declared.machine.SeatMachine.{SeatMachine}
use Rattle.bq_seat.specs.declared.machine.Action.TheVariants as actions
use Rattle.bq_seat.specs.declared.machine.Stage.TheVariants as stages
use Rattle.bq_seat.proofs.StepLemmas.{BeginsNoUnit-[], Reads-after, Reads-begun, answered_count-asked, answered_count-quit}
use Rattle.bq_seat.proofs.StepLemmas.{ends_by_wait-asked, no_quit_last, some_asked}

-- a connection is opened
pub opened : (r : ReaderState) → Stands r [] → StandsInStage stages.Connecting r [] false first_past
opened r h = search (rules, BeginsNoUnit-[])

-- bytes come while none are kept
pub handed_in : {r : ReaderState} {kept : List ℕ} {told : Bool} {out : ℕ} {p : Past} (more : List ℕ) → IsOpen r kept told out p
    → kept ≡ [] → told ≡ false → IsOpen r more told out (record p { bytes = p.bytes ++ more })
handed_in more o none untold = grind (arith, common_steps)

pub handed_in_waiting : {r : ReaderState} {kept : List ℕ} {told waits : Bool} {p : Past} (more : List ℕ) → IsWaiting r kept told waits p
    → kept ≡ [] → told ≡ false → IsWaiting r more told waits (record p { bytes = p.bytes ++ more })
unfolding handed_in
handed_in_waiting more w none untold = (handed_in more w.0 none untold, w.1)

-- A reader that has taken all bytes, without a request.
pub waited : (r next : ReaderState) (kept : List ℕ) (n : ℕ) (p : Past) → IsOpen r kept false 0 p → next.max_job_size ≡ r.max_job_size
    → ((text : List ℕ) → Stands r text → Waits next text kept n) → IsOpen next [] false 0 p
waited r next kept n p o same waits = grind (arith, common_steps)

-- A reader that has taken a whole request. The end of the input was not submitted.
module _ (r next : ReaderState) (kept : List ℕ) (n : ℕ) (q : Request) (p : Past) (o : IsOpen r kept false 0 p)
    (same : next.max_job_size ≡ r.max_job_size) (unit : IsUnit next.max_job_size (o.read.begun ++ take n kept) q) where
  -- the bytes that were read, up to the end of the request
  split_bytes : p.bytes ≡ (o.read.units ++ (o.read.begun ++ take n kept)) ++ drop n kept
  split_bytes = grind (arith, common_steps)

  -- the steps, with the request
  asked_steps : p.steps ++ steps.Ask q ∷ [] ≡ steps.Connect ∷ map steps.Ask (o.asked ++ q ∷ [])
  asked_steps = grind (arith, common_steps, map-append)

  -- The request is submitted.
  pub asks : Stands next [] → is_quit q ≡ false
      → IsWaiting next (drop n kept) false (is_waiting_request q) (with_action (actions.Submit (steps.Ask q)) p)
  asks h not_quit = (
    record {
      asked = o.asked ++ q ∷ [];
      read = record {
        units = o.read.units ++ (o.read.begun ++ take n kept);
        begun = [];
        stands = h;
        no_unit = BeginsNoUnit-[] next.max_job_size;
        are_units = AreUnits-append next.max_job_size o.asked o.read.units (o.read.begun ++ take n kept) q (rw same o.read.are_units) unit;
        bytes_are = split_bytes;
      };
      stepped = grind (arith, common_steps, asked_steps);
      handed = grind (arith, common_steps, length-append o.asked (q ∷ []));
    },
    ends_by_wait-asked o.asked q,
  )

-- A quit is submitted.
pub quits : (r next : ReaderState) (kept : List ℕ) (n : ℕ) (p : Past) (o : IsOpen r kept false 0 p) → next.max_job_size ≡ r.max_job_size
    → IsUnit next.max_job_size (o.read.begun ++ take n kept) requests.Quit
    → StandsInStage stages.AskingQuit next (drop n kept) false (with_action (actions.Submit (steps.Ask requests.Quit)) p)
quits r next kept n p o same unit =
    let text : List ℕ = o.read.begun ++ take n kept in
    let bytes_are = split_bytes r next kept n requests.Quit p o same unit ∙ append_assoc o.read.units text (drop n kept) in
    let asked = asked_steps r next kept n requests.Quit p o same unit in (
      rw o.stepped.closing_is refl,
      record {
        served = λ written. record {
          line = record {
            requests = o.asked ++ requests.Quit ∷ [];
            rest = drop n kept;
            asked = o.asked ++ requests.Quit ∷ [];
            end_steps = [];
            reads = Reads-after next.max_job_size p.bytes o.read.units (text ++ drop n kept) (drop n kept) o.asked (requests.Quit ∷ [])
                bytes_are (rw same o.read.are_units) o.stepped.no_quit
                (Reads-quit next.max_job_size (text ++ drop n kept) text (drop n kept) requests.Quit refl unit refl);
            is_over = (refl, ends_by_quit-append o.asked requests.Quit);
            ends = inl refl;
            steps_are = ap (λ x. x ++ steps.Close ∷ []) (asked ∙ sym (append-nil _));
          };
          handed_out = o.handed.written_is;
          answered = omega (arith, o.handed.answered, answered_count-quit o.asked o.stepped.no_quit);
          broken = tt;
          fault = o.handed.fault_is;
        };
        closing_is = or-true (p.closing || false);
        unclosed = ap has_closed o.handed.late_is;
      },
      grind (arith, common_steps),
    )

-- How an open connection ends: its input has ended or not, and this is its first fault if there is
-- one.
module _ {r : ReaderState} {kept : List ℕ} {told : Bool} {out : ℕ} {p : Past} (o : IsOpen r kept told out p) (ended : Bool)
    (fault : Option LineFault) (at : ℕ) where
  -- The end is submitted only after a reserve, and only if the connection's input has ended.
  told_well : (told ≡ true → ended ≡ true) → (end : Bool) → told ≡ end
      → MayTellEnd (record { read = p.bytes; ended = ended; fault = fault }) o.asked (end_if end)
  told_well h end e = let well = o.stepped.told_well in grind (arith, common_steps, cases_Bool)

  -- The connection is closed with this reading of its bytes.
  closes : (end : LineEnd) (asked : List Request) (rest : List ℕ) → Reads r.max_job_size p.bytes asked rest
      → IsOverBy (record { read = p.bytes; ended = ended; fault = fault }) end asked o.asked → AreAllAnswered end o.asked p.mail
      → IsLastBroken end (with_action (actions.Submit steps.Close) (record p { ended = ended; fault = fault; written_at_fault = at }))
      → IsFaultOf end fault
      → (told ≡ true → ended ≡ true)
      → IsClosing r.max_job_size end
      (with_action (actions.Submit steps.Close) (record p { ended = ended; fault = fault; written_at_fault = at }))
  closes end asked rest reads over answered broken is_fault h = record {
    served = λ written. record {
      line = grind arith;
      handed_out = o.handed.written_is;
      answered = answered;
      broken = broken;
      fault = is_fault;
    };
    closing_is = or-true p.closing;
    unclosed = ap has_closed o.handed.late_is;
  }

module _ {r : ReaderState} {kept : List ℕ} {told : Bool} {out : ℕ} {p : Past} (o : IsOpen r kept told out p) where
  -- If no bytes are kept, every request was submitted.
  all_read : kept ≡ [] → Reads r.max_job_size p.bytes o.asked o.read.begun
  all_read none = grind (arith, common_steps, Reads-begun)

  all_answered : out ≡ 0 → length p.mail ≡ answered_count o.asked
  all_answered none = grind (arith, answered_count-asked)

  -- A connection is closed at the end of its input,
  pub ends_line : (ended : Bool) → out ≡ 0 → kept ≡ [] → ended ≡ true
      → IsClosing r.max_job_size ends.EndOfInput (with_action (actions.Submit steps.Close) (record p { ended = ended }))
  ends_line ended all none e = closes o ended p.fault p.written_at_fault ends.EndOfInput o.asked o.read.begun (all_read none)
      (refl, no_quit_last o.asked o.stepped.no_quit, e) (all_answered all) tt o.handed.fault_is (λ t. e)

  -- after a read fault,
  pub read_fails : kept ≡ [] → ((out ≡ 0) ⊎ ((out ≡ 1) × (ends_by_wait o.asked ≡ true)))
      → IsClosing r.max_job_size ends.ReadFault (with_action (actions.Submit steps.Close) (with_fault faults.Read p))
  read_fails none answers = rw o.handed.fault_is (closes o p.ended (Some faults.Read) (length p.written) ends.ReadFault o.asked
      o.read.begun (all_read none) (refl, no_quit_last o.asked o.stepped.no_quit, refl)
      (elim answers [
        | inl e ↦ inl (all_answered e)
        | inr e ↦ inr (e.1, omega (arith, e.0, o.handed.answered, answered_count-asked o.asked o.stepped.no_quit))
      ])
      tt refl (λ t. o.stepped.ended_is ∙ t))

  -- and after a write fault; then the bytes that follow the submitted requests are read too.
  pub write_fails : out ≡ 0 → 0 < length p.written
      → ((text : List ℕ) → (requests : List Request) × (rest : List ℕ) × Reads r.max_job_size text requests rest)
      → IsClosing r.max_job_size ends.WriteFault (with_action (actions.Submit steps.Close) (with_fault faults.Write p))
  write_fails all some_written readings =
      let more = readings (o.read.begun ++ kept) in
      let some : 0 < length o.asked = omega (arith, all, o.handed.answered, ap length o.handed.written_is) in
      rw o.handed.fault_is (closes o p.ended (Some faults.Write) (length p.written) ends.WriteFault (o.asked ++ more.0) more.1
      (Reads-after r.max_job_size p.bytes o.read.units (o.read.begun ++ kept) more.1 o.asked more.0 o.read.bytes_are o.read.are_units
      o.stepped.no_quit more.2)
      (more.0, refl, some_asked o.asked some, no_quit_last o.asked o.stepped.no_quit, refl) (all_answered all) refl refl
      (λ t. o.stepped.ended_is ∙ t))

-- the outstanding answer comes, and is given for writing
pub answered : {r : ReaderState} {kept : List ℕ} {told waits : Bool} {p : Past} (a : Answer) → IsWaiting r kept told waits p
    → StandsInStage stages.Writing r kept told (with_action (actions.Write a) (with_mail a p))
answered {p = p} a w = grind (arith, common_steps)

-- while a reserve waits, the end of the input is submitted
pub tells_end : {r : ReaderState} {kept : List ℕ} {told : Bool} {p : Past} → IsWaiting r kept told true p → kept ≡ [] → told ≡ false
    → IsWaiting r kept true true (with_action (actions.Submit steps.End) (record p { ended = true }))
tells_end w none untold = let o = w.0 in (
  record { asked = o.asked; read = o.read; stepped = grind (arith, common_steps); handed = o.handed },
  w.1,
)

-- mail after the close is not part of what was served
module _ (size : ℕ) (end : LineEnd) (p : Past) (a : Answer) (c : IsClosing size end p) where
  late_mail : with_mail a p ≡ record p { late_mail = p.late_mail ++ a ∷ [] }
  late_mail = rw c.closing_is refl

  still_broken : (at : LineEnd) → IsLastBroken at p → IsLastBroken at (record p { late_mail = p.late_mail ++ a ∷ [] })
  still_broken at h = grind (arith, common_steps)

  served_still : (written : List ℕ) → IsServedToClose size written end (record p { late_mail = p.late_mail ++ a ∷ [] })
  served_still written = let s = c.served written in record {
    line = s.line;
    handed_out = s.handed_out;
    answered = s.answered;
    broken = still_broken end s.broken;
    fault = s.fault;
  }

  -- other mail
  pub still_closing : is_closed_answer a ≡ false → IsClosing size end (with_mail a p)
  still_closing other = grind (arith, served_still, list_any-append)

  -- the close's own answer
  pub served_now : is_closed_answer a ≡ true → (written : List ℕ) → IsServed size written end (with_mail a p)
  served_now own written = grind (arith, served_still)

-- ---- a machine that continues while no answer is outstanding

-- the end of the input was submitted, so the connection is closed, whatever is kept
pub goes_told : (m new : SeatMachine) (action : Action) (kept : List ℕ) → m.end_told ≡ true → action ≡ actions.Submit steps.Close
    → new ≡ in_stage (stages.Closing ends.EndOfInput) m → GoesOn (holding kept m) action new
goes_told m new action kept told does is = rw (does, is) (record {
  further = tt;
  awaits = refl;
  limit = refl;
  past = λ p o. ends_line o p.ended refl (o.stepped.told_well told).1 (o.stepped.ended_is ∙ told);
})

-- The reader has returned a request from these bytes, and it is submitted.
asking : (m : SeatMachine) (bytes : List ℕ) (next : ReaderState) (n : ℕ) (q : Request) → next.max_job_size ≡ m.reader.max_job_size
    → ((text : List ℕ) → Stands m.reader text → HandsRequest next text bytes n q) → (p : Past) → IsOpen m.reader bytes false 0 p
    → StandsInStage (asking_stage q) next (drop n bytes) false (with_action (actions.Submit (steps.Ask q)) p)
asking m bytes next n q same fed p o =
    let out = fed o.read.begun o.read.stands in
    let quit = quits m.reader next bytes n p o same in
    let ask = asks m.reader next bytes n q p o same out.unit in
    grind (arith, common_steps)

-- The reader has taken these bytes. Its request is submitted if there is one; otherwise the connection is read.
pub goes_taken : (m new : SeatMachine) (bytes : List ℕ) (next : ReaderState) (taken : Taken) (kept : List ℕ) (q : Request) (action : Action)
    → m.end_told ≡ false → kept ≡ drop taken.count bytes → IsTaken m.reader next bytes taken q
    → AsksOrReads taken.is_request q (record m { reader = next; kept = kept }) action new → GoesOn (holding bytes m) action new
goes_taken m new bytes next taken kept q action untold kept_is t further = go taken.is_request refl further
  where
    go : (b : Bool) → taken.is_request ≡ b → AsksOrReads b q (record m { reader = next; kept = kept }) action new
        → GoesOn (holding bytes m) action new
    go true e f = rw (f.0, f.1) (record {
      further = tt;
      awaits = grind (arith, common_steps);
      limit = t.limit;
      past = λ p o. rw (kept_is, untold)
          (asking m bytes next taken.count q t.limit (rw e at t.hands_out) p (subst (λ t. IsOpen m.reader bytes t 0 p) untold o));
    })
    go false e f = grind (arith, common_steps)
