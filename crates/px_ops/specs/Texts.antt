-- The text of a reply.
use Rattle.std.specs.Prelude.{ℕ, List, ◌++◌, codes, decimal, Option, None, Some}
use Rattle.px_base.specs.declared.ids.TxId.{TxId}
use Rattle.px_ops.specs.BookingTexts.{begun_text, booking_text, books_text, created_text, names_text}
use Rattle.px_ops.specs.JobTexts.{planned_jobs_text, stale_text, state_word, taken_text}
use Rattle.px_ops.specs.RefusalTexts.{refusal_text}
use Rattle.px_ops.specs.VoteTexts.{end_text, outcome_text, result_text}
use Rattle.px_ops.specs.declared.reply.Reply.{Reply}
use Rattle.px_ops.specs.declared.reply.Reply.TheVariants as reply

-- who has the turn, or '-' for nobody
abbrev pub holder_text : Option TxId → List ℕ
holder_text None = codes "holder -"
holder_text (Some tx) = codes "holder " ++ decimal tx.0

-- a reply; of a result the number of its subtransaction is not told
abbrev pub reply_text : Reply → List ℕ
reply_text (reply.Refused refusal) = codes "refused " ++ refusal_text refusal
reply_text reply.Done = codes "ok"
reply_text (reply.Storage storage) = codes "storage " ++ decimal storage.0
reply_text (reply.Opened tx) = codes "tx " ++ decimal tx.0
reply_text (reply.Counted sub result) = result_text result
reply_text (reply.OutcomeIs outcome) = outcome_text outcome
reply_text (reply.Created repo lease assigned) = created_text repo.0 lease assigned
reply_text (reply.Begun begun) = begun_text begun
reply_text (reply.Finished end) = end_text end
reply_text (reply.Taken job) = taken_text job
reply_text (reply.Dropped job) = codes "dropped " ++ decimal job.0
reply_text reply.NoJob = codes "nojob"
reply_text (reply.JobIs state) = state_word state
reply_text (reply.StaleIs jobs) = stale_text jobs
reply_text (reply.JobsAre jobs) = planned_jobs_text jobs
reply_text (reply.Route storage generation) =
    codes "route " ++ storage ++ codes " gen " ++ decimal generation.0
reply_text (reply.Assigned names) = codes "assigned " ++ names_text names
reply_text (reply.Leased lease) = codes "lease " ++ decimal lease
reply_text (reply.Accepted generation) = codes "gen " ++ decimal generation.0
reply_text (reply.BookedIs booking) = codes "booked " ++ booking_text booking
reply_text (reply.Books newest rows) = books_text newest.0 rows
reply_text (reply.Repo repo) = codes "repo " ++ decimal repo.0
reply_text (reply.HolderIs holder) = holder_text holder
