use Rattle.bq_session.proofs.program.run_bq.Goals as goal

pub returns : goal.returns
returns g c =
    let came = c.came_of_client-came in (
      c.new-clock.result,
      c.new-clock.ensures,
      came.result,
      came.ensures.options,
      came.ensures.served,
      came.ensures.over,
      c.tell_client.ensures,
    )
