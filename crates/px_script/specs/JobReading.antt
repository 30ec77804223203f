-- What the reader computes of the words of a line on replication jobs. The rule of these lines
-- stands in JobSpelling.
use Rattle.std.specs.Prelude.{ℕ, List, true, false, if◌then◌else◌, Option, None, option_map, codes}
use Rattle.std.specs.Str.{bytes_eq}
use Rattle.px_base.specs.declared.ids.JobId.{JobId}
use Rattle.px_ops.specs.declared.op.Op.TheVariants.{Ack, Beat, Reconcile, SetFactor, Stale}
use Rattle.px_script.specs.Reading.{and_then, at_end, job_lease_of}
use Rattle.px_script.specs.Words.{lease_of, name_of, number_of, small_of}
use Rattle.px_script.specs.declared.event.Event.{Event}
use Rattle.px_script.specs.declared.event.Event.TheVariants.{Apply, Operation, Remove, Snapshot, Take}

-- no more
abbrev pub reconcile_of : List (List ℕ) → Option Event
reconcile_of words = at_end (Operation (Reconcile None)) words

-- a storage and a moment
abbrev pub take_of : List (List ℕ) → Option Event
take_of words =
    and_then name_of words (λ name words.
    and_then number_of words (λ now words. at_end (Take name now) words))

-- a job, a lease and a moment
abbrev pub beat_of : List (List ℕ) → Option Event
beat_of words =
    and_then number_of words (λ job words.
    and_then lease_of words (λ lease words.
    and_then number_of words (λ now words.
    at_end (Operation (Beat (record { 0 = job }) lease now)) words)))

-- a moment and a time
abbrev pub stale_of : List (List ℕ) → Option Event
stale_of words =
    and_then number_of words (λ now words.
    and_then number_of words (λ after words. at_end (Operation (Stale now after)) words))

-- a repository and a factor
abbrev pub factor_of : List (List ℕ) → Option Event
factor_of words =
    and_then small_of words (λ repo words.
    and_then small_of words (λ factor words.
    at_end (Operation (SetFactor (record { 0 = repo }) factor)) words))

-- the events of a job under a lease
abbrev pub snapshot : JobId × ℕ → Event
snapshot work = Snapshot work.0 work.1

abbrev pub apply : JobId × ℕ → Event
apply work = Apply work.0 work.1

abbrev pub remove : JobId × ℕ → Event
remove work = Remove work.0 work.1

abbrev pub good_end : JobId × ℕ → Event
good_end work = Operation (Ack work.0 work.1 true)

abbrev pub bad_end : JobId × ℕ → Event
bad_end work = Operation (Ack work.0 work.1 false)

-- the event of a job under a lease that begins with this word and goes on with those
abbrev pub work_of : List ℕ → List (List ℕ) → Option Event
work_of first words =
    if bytes_eq first (codes "snapshot") then option_map snapshot (job_lease_of words)
    else if bytes_eq first (codes "apply") then option_map apply (job_lease_of words)
    else if bytes_eq first (codes "remove") then option_map remove (job_lease_of words)
    else if bytes_eq first (codes "done") then option_map good_end (job_lease_of words)
    else if bytes_eq first (codes "fail") then option_map bad_end (job_lease_of words)
    else None

-- the event that begins with this word and goes on with those
abbrev pub job_of : List ℕ → List (List ℕ) → Option Event
job_of first words =
    if bytes_eq first (codes "reconcile") then reconcile_of words
    else if bytes_eq first (codes "take") then take_of words
    else if bytes_eq first (codes "beat") then beat_of words
    else if bytes_eq first (codes "stale") then stale_of words
    else if bytes_eq first (codes "factor") then factor_of words
    else work_of first words
