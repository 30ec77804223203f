use Rattle.std.proofs.Common.{◌≡◌, arith, ap, sym, ◌∙◌, Some, slice_get, length-set, subst}
use Rattle.voters.specs.declared.act.Act.TheVariants.{Cast}
use Rattle.voters.specs.Marks.{voting}
use Rattle.voters.specs.Sub.{IsSound, votes_in}
use Rattle.voters.specs.Votes.{Votes, after}
use Rattle.voters.proofs.CountLemmas.{vote-weights}
use Rattle.voters.proofs.StepLemmas.{cast_sound}
use Rattle.voters.proofs.SubLemmas.{cast_step, slice_get-set}
use Rattle.voters.proofs.sub.Sub.record_cast.Goals as goal

there : (c : goal.After-self-1) → slice_get c.self.inside.count c.args.voter ≡ Some c.args.mark
there c = ap (λ (votes : Votes). slice_get votes.marks c.args.voter) c.self.view_is ∙ c.requires.there

step : (c : goal.After-self-1) → votes_in (record { count = c.vote.new.self; threshold = c.self.inside.threshold; total = c.self.inside.total; outcome = c.first_of-self-inside.result }) ≡ after (votes_in c.self.inside) (Cast c.args.voter c.args.hash.now)
step c = cast_step (votes_in c.self.inside) c.args.voter c.args.hash.now c.args.mark c.vote.new.self c.after_cast.result c.first_of-self-inside.result c.self.invariant.sound (there c) c.requires.is_open
    c.vote.ensures c.after_cast.ensures c.first_of-self-inside.ensures

pub invariant_of-self : goal.invariant_of-self
invariant_of-self c = record {
  sound = subst (λ (votes : Votes). IsSound votes) (sym (step c)) (cast_sound (votes_in c.self.inside) c.args.voter c.args.hash.now c.self.invariant.sound);
  total = rw c.vote.ensures (omega (arith, c.self.invariant.total, (vote-weights c.args.hash.now c.self.inside.count c.args.voter c.args.mark (there c) c.requires.is_open).0));
  few = rw (c.vote.ensures, length-set) c.self.invariant.few;
}

pub returns-clause-act : goal.returns-clause-act
returns-clause-act c = step c ∙ ap (λ (votes : Votes). after votes (Cast c.args.voter c.args.hash.now)) c.self.view_is

pub returns-clause-there : goal.returns-clause-there
returns-clause-there c =
    rw c.vote.ensures (slice_get-set c.self.inside.count c.args.voter c.args.mark (voting c.args.mark c.args.hash.now) (there c))
