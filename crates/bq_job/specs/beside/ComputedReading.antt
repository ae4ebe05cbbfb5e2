-- The reading of a text, computed, in which no allocation fails.
use Rattle.std.specs.Prelude.{ℕ, zero, suc, ◌+◌, true, false, nat_lt, nat_le, List, [], ◌∷◌, length}
use Rattle.std.specs.Prelude.{take, drop, Option, Some, None, if◌then◌else◌}
use Rattle.bq_job.specs.declared.{refusal.Refusal.TheVariants.JobTooBig, request.Request.{Request, TheVariants.Refused}}
use Rattle.bq_job.specs.reading.{Line.first_line, LineRead.{LineRead, PutLine, PutWaits, Whole, read_line}}
use Rattle.bq_job.specs.reading.Reading.{is_quit, put_with_body}

abbrev pub put_request : ℕ → PutLine → List ℕ → Request
put_request max_job_size put bytes =
    let read = put_with_body put bytes in
    if nat_lt max_job_size put.bytes then Refused JobTooBig else read

-- the request of a command line and of the bytes after it, and what then remains
abbrev pub unit_after : ℕ → LineRead → List ℕ → Option (Request × List ℕ)
unit_after max_job_size (Whole request) after = Some (request, after)
unit_after max_job_size (PutWaits put) after =
    let read = Some (put_request max_job_size put (take (put.bytes + 2) after), drop (put.bytes + 2) after) in
    if nat_le (put.bytes + 2) (length after) then read else None

abbrev pub unit_of_line : ℕ → Option (List ℕ × List ℕ) → Option (Request × List ℕ)
unit_of_line max_job_size None = None
unit_of_line max_job_size (Some (line, after)) = unit_after max_job_size (read_line line) after

-- the first request of a text, and what remains after it
abbrev pub first_unit : ℕ → List ℕ → Option (Request × List ℕ)
first_unit max_job_size text = unit_of_line max_job_size (first_line text)

abbrev pub onto_reading : Request → List Request × List ℕ → List Request × List ℕ
onto_reading request (requests, rest) = (request ∷ requests, rest)

-- at most `n` requests
abbrev pub reading_within : ℕ → ℕ → List ℕ → List Request × List ℕ
reading_within zero max_job_size text = ([], text)
reading_within (suc n) max_job_size text =
    elim (first_unit max_job_size text) [
      | None ↦ ([], text)
      | Some (request, after) ↦
          elim (is_quit request) [ true ↦ (request ∷ [], after) | false ↦ onto_reading request (reading_within n max_job_size after) ]
    ]

-- A request has at least two bytes, so there are fewer requests than bytes.
abbrev pub reading : ℕ → List ℕ → List Request × List ℕ
reading max_job_size text = reading_within (length text) max_job_size text
