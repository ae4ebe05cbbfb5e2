-- The command's own effect, as the core carries it out.
use Rattle.std.specs.Prelude.{◌&&◌, ◌++◌, ◌||◌, ◌∷◌, ◌≡◌, Bool, IsTrue, List, None, Some, [], false, true, ℕ}
use Rattle.bq_job.specs.declared.{answer.Answer.Answer, request.Request.Request, step.Step.Step}
use Rattle.bq_job.specs.machine.{Effect, Memory, acted, addressed}
use Rattle.bq_job.specs.machine.{is_growth_refused}
use Rattle.bq_job.specs.declared.answer.Answer.TheVariants as answers
use Rattle.bq_job.specs.declared.request.Request.TheVariants as requests
use Rattle.bq_job.specs.declared.step.Step.TheVariants as steps
use Rattle.bq_job.specs.machine.{is_possible, is_share_refused, may_be_left_out, shares_body, Machine.Machine}
use Rattle.bq_core_api.specs.Outbox.{Outbox}
use Rattle.bq_core.specs.declared.{acts.Reply.{Reply, TheVariants.{LeftOut, Silent, Told, Unshared}}, job_acts.NewJob.NewJob}

-- The outcome of a request. It had this effect, with this answer; or it was skipped because an
-- allocation failed; or its answer would show a body that could not be shared.
abbrev pub Replies : Bool → Machine → Effect → Reply → Answer → Machine → Type 0
Replies takes m e Silent told next = e ≡ record { machine = next; answer = None }
Replies takes m e Told told next = e ≡ record { machine = next; answer = Some told }
Replies takes m e LeftOut told next = (next ≡ m) × IsTrue (takes && may_be_left_out e.answer)
Replies takes m e Unshared told next = (next ≡ m) × IsTrue (shares_body e.answer)

-- The command's own effect was carried out, and its answer appended.
pub record Acts (m : Machine) (seat : ℕ) (what : Step) (old new : Outbox) (last : Machine) : Type 0 where
  pub memory : Memory
  pub possible : IsTrue (is_possible memory m seat what)
  pub after : last ≡ (acted memory m seat what).machine
  pub added : new.given ≡ old.given ++ addressed seat (acted memory m seat what).answer
  pub most : new.most ≡ old.most
  pub left_out : new.left_out ≡ (old.left_out || is_growth_refused memory)
  pub unshared : new.unshared ≡ (old.unshared || is_share_refused memory)

-- with one more answer
abbrev pub with_answer : ℕ → Answer → Outbox → Outbox
with_answer seat answer outs = record outs { given = outs.given ++ (seat, answer) ∷ [] }

-- with the answer to a request that had this outcome
abbrev pub with_reply : ℕ → Reply → Answer → Outbox → Outbox
with_reply seat Silent told outs = outs
with_reply seat Told told outs = with_answer seat told outs
with_reply seat LeftOut told outs = record (with_answer seat answers.OutOfMemory outs) { left_out = true }
with_reply seat Unshared told outs = record (with_answer seat answers.OutOfMemory outs) { unshared = true }

-- the requests that need no room for an answer: that to a put or a delete is made where it goes, and a reserve is
-- answered when its wait ends
abbrev pub needs_no_room : Request → Bool
needs_no_room (requests.Put pri delay ttr body) = true
needs_no_room (requests.Delete id) = true
needs_no_room requests.Reserve = true
needs_no_room request = false

abbrev pub is_request : Step → Bool
is_request (steps.Ask request) = true
is_request what = false

-- the step that puts this job
abbrev pub put_of : NewJob → List ℕ → Step
put_of new body = steps.Ask (requests.Put new.pri new.delay new.ttr body)
