-- What the command's own effect gives to one client: the client that asks is answered or waits, and
-- other seats stay as they were.
use Rattle.std.proofs.Common.{ℕ, ◌≡◌, ◌+◌, Bool, true, false, List, [], ◌∷◌}
use Rattle.std.proofs.Common.{length, arith, refl, ap, ◌∙◌, subst, Option, Some, None}
use Rattle.std.proofs.lemmas.{Bool.{and_from, and_parts, cases_Bool}, Grind.common_steps}
use Rattle.std.specs.{List.Contains, Prelude.{◌==◌, IsTrue, is_some}}
use Rattle.bq_job.specs.machine.{Effect, Machine.Machine, Memory, SeatRecord, acted, addressed, after_close, after_connect}
use Rattle.bq_job.specs.machine.{effect, empty_seat, has_closed}
use Rattle.bq_job.specs.machine.{is_closed_answer, is_possible, is_waiting, raised, reserve_effect}
use Rattle.bq_job.specs.machine.{silent, telling, waiting_from, with_end, with_seat}
use Rattle.bq_job.specs.{promise.{answers_to, answers_wanted, is_waiting_request}, Types.{Answer, Request, Step}}
use Rattle.bq_job.specs.declared.answer.Answer.TheVariants as answers
use Rattle.bq_job.specs.declared.step.Step.TheVariants as steps
use Rattle.bq_job.proofs.EffectKinds.{Kind, adds, changes_jobs, changes_seat, changes_tube, deletes, passes, tells, waits}
use Rattle.bq_job.proofs.OneClientLemmas.{Found, changed, changed_elsewhere, changed_quiet, changed_some, connected_in, one_for, waits_in}
use Rattle.bq_job.proofs.{CommandKinds.kind_of, EachEvent.{IsSeat, each_acted}}

-- the answers that the command itself gives the client
abbrev pub told : Option Answer → List Answer
told None = []
told (Some answer) = answer ∷ []

-- The client makes a request while it does not wait: it gets this many answers, or waits for them.
pub record Replies (seat wanted : ℕ) (may_wait : Bool) (seats : List SeatRecord) (e : Effect) : Type 0 where
  pub count : length (told e.answer) + one_for (waits_in seat (e.machine).seats) ≡ wanted
  pub at_once : may_wait ≡ false → waits_in seat (e.machine).seats ≡ false
  pub unclosed : has_closed (told e.answer) ≡ false
  pub connected : connected_in seat (e.machine).seats ≡ connected_in seat seats

replies_telling : {b : Bool} (seat : ℕ) (m n : Machine) (answer : Answer) → is_closed_answer answer ≡ false → waits_in seat n.seats ≡ false
    → connected_in seat n.seats ≡ connected_in seat m.seats → Replies seat 1 b m.seats (telling answer n)
replies_telling seat m n answer stays w c = record { count = rw w refl; at_once = λ e. w; unclosed = rw stays refl; connected = c }

-- A seat changes, and its client waits as before.
replies_seat : {b : Bool} (seat number : ℕ) (f : SeatRecord → SeatRecord) (m : Machine) (answer : Answer) → waits_in seat m.seats ≡ false
    → is_closed_answer answer ≡ false → ((s : SeatRecord) → (f s).number ≡ s.number) → ((s : SeatRecord) → (f s).connected ≡ s.connected)
    → ((s : SeatRecord) → is_waiting (f s) ≡ is_waiting s) → Replies seat 1 b m.seats (telling answer (with_seat number f m))
replies_seat seat number f m answer w stays same connects waits_as =
    replies_telling seat m (with_seat number f m) answer stays
    (changed_quiet seat number f is_waiting m.seats same waits_as ∙ w)
    (changed_quiet seat number f (λ s. s.connected) m.seats same connects)

-- A request that is answered wants one answer.
answered : {seat : ℕ} {b : Bool} {seats : List SeatRecord} {e : Effect} (request : Request) → answers_wanted request ≡ 1
    → Replies seat 1 b seats e → Replies seat (answers_wanted request) b seats e
answered request one h = rw one h

-- The client begins to wait.
replies_reserve : (until : Option ℕ) (m : Machine) (s : SeatRecord) → Contains m.seats s
    → Replies s.number 1 true m.seats (reserve_effect until m s)
replies_reserve until m s there = record {
  count = rw (changed_some s.number (waiting_from (raised m.tickets) until) is_waiting m.seats s refl there (λ t. refl) (λ t. refl)) refl;
  at_once = λ e. absurd cc;
  unclosed = refl;
  connected = changed_quiet s.number s.number (waiting_from (raised m.tickets) until) (λ t. t.connected) m.seats (λ t. refl) (λ t. refl);
}

-- every kind of command
replies_kind : (request : Request) (m : Machine) (s : SeatRecord) {e : Effect} → Kind m s request e → Contains m.seats s
    → waits_in s.number m.seats ≡ false → Replies s.number (answers_wanted request) (is_waiting_request request) m.seats e
replies_kind request m s (passes none) there w = record { count = rw (w, none) refl; at_once = λ e. w; unclosed = refl; connected = refl }
replies_kind request m s (tells answer one common unclosed) there w = grind (arith, common_steps, answered, unclosed)
replies_kind request m s (waits until one waiting) there w = rw (one, waiting) (replies_reserve until m s there)
replies_kind request m s (adds pri delay ttr body one accepts free) there w = grind (arith, common_steps, answered)
replies_kind request m s (deletes id j asks found free) there w = grind (arith, common_steps, answered)
replies_kind request m s (changes_jobs answer f burials says changes) there w = grind (arith, common_steps, answered)
replies_kind request m s (changes_seat answer f says changes) there w =
    answered request says.wanted (replies_seat s.number s.number f m answer w says.unclosed changes.number changes.connected
    (λ t. ap is_some (changes.wait t)))
replies_kind request m s (changes_tube tube seconds one) there w = grind (arith, common_steps, answered)

-- a connected client that doesn't wait makes a request
pub replies_effect : (m : Machine) (seat : ℕ) (request : Request) (f : Found seat m.seats) → connected_in seat m.seats ≡ true
    → waits_in seat m.seats ≡ false → Replies seat (answers_wanted request) (is_waiting_request request) m.seats
    (effect m seat (steps.Ask request))
replies_effect m seat request f c w =
    grind (arith, common_steps, replies_kind request m f.client (kind_of request m f.client) f.there, and_from)

-- the same whether or not memory was lacking
pub replies_acted : (memory : Memory) (m : Machine) (seat : ℕ) (request : Request) → waits_in seat m.seats ≡ false
    → IsTrue (is_possible memory m seat (steps.Ask request))
    → Replies seat (answers_wanted request) (is_waiting_request request) m.seats (effect m seat (steps.Ask request))
    → Replies seat (answers_wanted request) (is_waiting_request request) m.seats (acted memory m seat (steps.Ask request))
replies_acted memory m seat request w p h = grind (arith, common_steps, and_parts)

-- What a command at a seat leaves unchanged for the client of another seat.
pub record Stays (client number : ℕ) (m : Machine) (e : Effect) : Type 0 where
  pub settings : (e.machine).settings ≡ m.settings
  pub waits : (number == client) ≡ false → waits_in client (e.machine).seats ≡ waits_in client m.seats
  pub connected : (number == client) ≡ false → connected_in client (e.machine).seats ≡ connected_in client m.seats

stays_same : (client number : ℕ) (m : Machine) (e : Effect) → (e.machine).settings ≡ m.settings → (e.machine).seats ≡ m.seats
    → Stays client number m e
stays_same client number m e same seats = grind arith

stays_seat : (client number : ℕ) (f : SeatRecord → SeatRecord) (m : Machine) (e : Effect) → ((s : SeatRecord) → (f s).number ≡ s.number)
    → (e.machine).settings ≡ m.settings → (e.machine).seats ≡ changed number f m.seats → Stays client number m e
stays_seat client number f m e same settings seats = record {
  settings = settings;
  waits = λ d. ap (waits_in client) seats ∙ changed_elsewhere client number f is_waiting m.seats d same;
  connected = λ d. ap (connected_in client) seats ∙ changed_elsewhere client number f (λ s. s.connected) m.seats d same;
}

-- every kind of command
stays_kind : (client : ℕ) (request : Request) (m : Machine) (s : SeatRecord) {e : Effect} → Kind m s request e → Stays client s.number m e
stays_kind client request m s (passes none) = stays_same client s.number m (silent m) refl refl
stays_kind client request m s (tells answer one common unclosed) = stays_same client s.number m (telling answer m) refl refl
stays_kind client request m s (waits until one waiting) =
    stays_seat client s.number (waiting_from (raised m.tickets) until) m (reserve_effect until m s) (λ t. refl) refl refl
stays_kind client request m s (adds pri delay ttr body one accepts free) = stays_same client s.number m _ refl refl
stays_kind client request m s (deletes id j asks found free) = stays_same client s.number m _ refl refl
stays_kind client request m s (changes_jobs answer f burials says changes) = stays_same client s.number m _ refl refl
stays_kind client request m s (changes_seat answer f says changes) =
    stays_seat client s.number f m (telling answer (with_seat s.number f m)) changes.number refl refl
stays_kind client request m s (changes_tube tube seconds one) = stays_same client s.number m _ refl refl

-- every event
pub stays_acted : (client : ℕ) (memory : Memory) (m : Machine) (seat : ℕ) (what : Step) → Stays client seat m (acted memory m seat what)
stays_acted client memory m seat what = each_acted m seat (λ what e. Stays client seat m e) (record {
  nothing = λ what. stays_same client seat m (silent m) refl refl;
  connects = λ s is. at_seat is (stays_seat client s.number (λ t. record (empty_seat t.number) { connected = true }) m
      (silent (after_connect m s.number)) (λ t. refl) refl refl);
  asks = λ request s is c w. at_seat is (stays_kind client request m s (kind_of request m s));
  ends = λ s is. at_seat is (stays_seat client s.number with_end m (silent (with_seat s.number with_end m)) (λ t. refl) refl refl);
  closes = λ s is. at_seat is (stays_seat client s.number (λ t. empty_seat t.number) m (telling answers.Closed (after_close m s.number))
      (λ t. refl) refl refl);
  drains = stays_same client seat m (silent (record m { draining = true })) refl refl;
}) (λ what. stays_same client seat m (telling answers.OutOfMemory m) refl refl) memory what
  where
    at_seat : {s : SeatRecord} {e : Effect} → IsSeat m seat s → Stays client s.number m e → Stays client seat m e
    at_seat {s} {e} is h = subst (λ n. Stays client n m e) is.number h

pub told_elsewhere : (client seat : ℕ) (o : Option Answer) → (seat == client) ≡ false → answers_to client (addressed seat o) ≡ []
told_elsewhere client seat o d = grind (arith, common_steps, cases_Bool)
