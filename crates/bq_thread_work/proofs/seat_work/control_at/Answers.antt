use Rattle.std.proofs.Common.{refl, subst, sym, []}
use Rattle.bq_thread_work.specs.Ends.{EndTrace}
use Rattle.bq_thread_work.specs.declared.seat_work.SeatLink.{SeatLink}
use Rattle.bq_thread_work.proofs.EndLemmas.{end_still}
use Rattle.bq_thread_work.proofs.seat_work.control_at.Goals as goal

pub returns-clause-done : goal.returns-clause-done
returns-clause-done g c =
    let h = c.submit_control.ensures.done in
    let first : SeatLink _ = record {
      rt = c.args.rt;
      intake = c.args.intake;
      end = record { ref_ptr = c.args.end.ref_ptr; ghost_name = c.link-1.given; now = c.args.end.now };
      pace = c.new.result;
    } in
    let p = h.2 first [] (refl, refl, end_still c.args.end.now) in (
      h.0,
      h.1,
      subst (EndTrace c.args.end.now h.0 []) (sym (c.end-1.given.1 (sym p.0))) p.2,
    )
