use Rattle.bq_core.proofs.ActLemmas.{number_found}
use Rattle.bq_core.proofs.acts.carry_out.Goals as goal

pub returns-in-ReserveJob-clause-reply : goal.returns-in-ReserveJob-clause-reply
returns-in-ReserveJob-clause-reply c s found = rw c.in-ReserveJob.is (c.reserve_job.ensures.reply s (number_found _ _ _ found))

pub returns-in-Release-clause-reply : goal.returns-in-Release-clause-reply
returns-in-Release-clause-reply c s found = rw c.in-Release.is (c.release.ensures.reply s (number_found _ _ _ found))

pub returns-in-Bury-clause-reply : goal.returns-in-Bury-clause-reply
returns-in-Bury-clause-reply c s found = rw c.in-Bury.is (c.bury.ensures.reply s (number_found _ _ _ found))

pub returns-in-Touch-clause-reply : goal.returns-in-Touch-clause-reply
returns-in-Touch-clause-reply c s found = rw c.in-Touch.is (c.touch.ensures.reply s (number_found _ _ _ found))

pub returns-in-KickJob-clause-reply : goal.returns-in-KickJob-clause-reply
returns-in-KickJob-clause-reply c s found = rw c.in-KickJob.is (c.kick_job.ensures.reply s)

pub returns-in-Use-clause-reply : goal.returns-in-Use-clause-reply
returns-in-Use-clause-reply c s found = rw c.in-Use.is (c.use_tube.ensures.reply s (number_found _ _ _ found))

pub returns-in-ListTubeUsed-clause-reply : goal.returns-in-ListTubeUsed-clause-reply
returns-in-ListTubeUsed-clause-reply c s found = rw c.in-ListTubeUsed.is (c.list_tube_used.ensures s found)

pub returns-in-Ignore-clause-reply : goal.returns-in-Ignore-clause-reply
returns-in-Ignore-clause-reply c s found = rw c.in-Ignore.is (c.ignore.ensures.reply s found)
