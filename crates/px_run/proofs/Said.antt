-- What was said in several writes.
use Rattle.std.proofs.Common.{List, ℕ, [], ◌++◌, append_assoc, refl, ap, sym, ◌∙◌, inl, inr, subst, ◌≤◌}
use Rattle.std.specs.Io.KnownBytes.{Appends}
use Rattle.std.proofs.KnownBytes.{Appends-nil, Appends-trans}
use Rattle.px_base.specs.Causes.{Rose}
use Rattle.px_base.specs.Sink.{TakesPart}
use Rattle.script_run.specs.Stream.{HasFailed, HasNotFailed, Stream}
use Rattle.px_run.specs.Run.{Says}

-- nothing is said
pub says_nothing : (old : Stream) → Says old old []
says_nothing old = inl (Appends-nil old.bytes, refl)

-- a front of a text is a front of a longer one
pub says_front : (old new : Stream) (text more : List ℕ) → TakesPart old.bytes new.bytes text → HasFailed old new → Says old new (text ++ more)
says_front old new text more t failed = inr (
  record {
    part = t.part;
    rest = t.rest ++ more;
    whole = ap (λ (x : List ℕ). x ++ more) t.whole ∙ append_assoc t.part t.rest more;
    taken = t.taken;
  },
  failed,
)

-- behind a text that went out whole, more is said
pub says_more : (old middle new : Stream) (text more : List ℕ) → Appends old.bytes middle.bytes text → HasNotFailed old middle → Says middle new more
    → Says old new (text ++ more)
says_more old middle new text more went same (inl (rest, count)) =
    inl (Appends-trans old.bytes middle.bytes new.bytes text more went rest, count ∙ same)
says_more old middle new text more went same (inr (t, failed)) = inr (
  record {
    part = text ++ t.part;
    rest = t.rest;
    whole = ap (λ (x : List ℕ). text ++ x) t.whole ∙ sym (append_assoc text t.part t.rest);
    taken = Appends-trans old.bytes middle.bytes new.bytes text t.part went t.taken;
  },
  (subst (λ n. n ≤ new.faults) same failed.0, subst (λ n. Rose n new.faults) same failed.1),
)
