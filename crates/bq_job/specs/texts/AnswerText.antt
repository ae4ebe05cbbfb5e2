-- The text of an answer: its head, its body and its tail, one after another.
use Rattle.std.specs.Prelude.{ℕ, List, [], ◌++◌, length, codes, decimal}
use Rattle.bq_job.specs.{declared.answer.Answer.Answer, reading.Line.line_end}
use Rattle.bq_job.specs.declared.answer.Answer.TheVariants as answers

-- The first line with its CR LF. If there is a body, the line contains its length. A closed
-- connection gets no bytes.
abbrev pub answer_head : Answer → List ℕ
answer_head (answers.Inserted id) = codes "INSERTED " ++ decimal id ++ line_end
answer_head (answers.Reserved id body) = codes "RESERVED " ++ decimal id ++ codes " " ++ decimal (length body) ++ line_end
answer_head (answers.Found id body) = codes "FOUND " ++ decimal id ++ codes " " ++ decimal (length body) ++ line_end
answer_head (answers.Ok text) = codes "OK " ++ decimal (length text) ++ line_end
answer_head (answers.Using tube) = codes "USING " ++ tube ++ line_end
answer_head (answers.Watching count) = codes "WATCHING " ++ decimal count ++ line_end
answer_head (answers.KickedCount count) = codes "KICKED " ++ decimal count ++ line_end
answer_head answers.Kicked = codes "KICKED\r\n"
answer_head answers.Deleted = codes "DELETED\r\n"
answer_head answers.Released = codes "RELEASED\r\n"
answer_head answers.Buried = codes "BURIED\r\n"
answer_head answers.Touched = codes "TOUCHED\r\n"
answer_head answers.Paused = codes "PAUSED\r\n"
answer_head answers.NotFound = codes "NOT_FOUND\r\n"
answer_head answers.NotIgnored = codes "NOT_IGNORED\r\n"
answer_head answers.Draining = codes "DRAINING\r\n"
answer_head answers.OutOfMemory = codes "OUT_OF_MEMORY\r\n"
answer_head answers.TimedOut = codes "TIMED_OUT\r\n"
answer_head answers.DeadlineSoon = codes "DEADLINE_SOON\r\n"
answer_head answers.UnknownCommand = codes "UNKNOWN_COMMAND\r\n"
answer_head answers.BadFormat = codes "BAD_FORMAT\r\n"
answer_head answers.JobTooBig = codes "JOB_TOO_BIG\r\n"
answer_head answers.ExpectedCrlf = codes "EXPECTED_CRLF\r\n"
answer_head answers.Closed = []

-- the bytes of the job, or the YAML text
abbrev pub answer_body : Answer → List ℕ
answer_body (answers.Reserved id body) = body
answer_body (answers.Found id body) = body
answer_body (answers.Ok text) = text
answer_body _ = []

-- A body, even an empty one, is followed by CR LF.
abbrev pub answer_tail : Answer → List ℕ
answer_tail (answers.Reserved id body) = line_end
answer_tail (answers.Found id body) = line_end
answer_tail (answers.Ok text) = line_end
answer_tail _ = []

abbrev pub answer_text : Answer → List ℕ
answer_text a = answer_head a ++ answer_body a ++ answer_tail a
