use Rattle.std.proofs.Common.{◌≡◌, ◌≤◌, arith, ap, sym, ◌∙◌}
use Rattle.voters.specs.Marks.{standing_weight}
use Rattle.voters.specs.Votes.{Votes}
use Rattle.voters.specs.declared.outcome.Outcome.TheVariants.{Commit}
use Rattle.px_base.specs.Hash.{same_hash-Decides}
use Rattle.voters.proofs.MarkLemmas.{within_total}
use Rattle.voters.proofs.sub.Sub.judged.Goals as goal

pub new-requires : goal.new-requires
new-requires c =
    let is : c.self.inside.outcome ≡ Commit c.args.hash = ap (λ (votes : Votes). votes.outcome) c.self.view_is ∙ c.requires in
    let own : c.args.hash ≡ c.args.own = (same_hash-Decides c.args.hash c.args.own).0 (sym c.eq.ensures ∙ c.if-eq.true) in
    let lead : c.self.inside.threshold ≤ standing_weight c.args.own c.self.inside.count = rw own at (c.self.invariant.sound.leads c.args.hash is) in
    record {
      reaches = omega (arith, lead, c.standing.ensures);
      most = omega (arith, c.self.invariant.sound.most, c.self.invariant.total);
      within = omega (arith, c.standing.ensures, within_total c.args.own c.self.inside.count, c.self.invariant.total);
    }
