use Rattle.std.proofs.Common.{◌≡◌, arith, ap, sym, ◌∙◌, List, map, refl}
use Rattle.std.proofs.lemmas.List.{length-map}
use Rattle.px_base.specs.declared.voter.Voter.{Voter}
use Rattle.voters.specs.Marks.{fresh}
use Rattle.voters.proofs.CountLemmas.{new_total}
use Rattle.voters.proofs.SubLemmas.{fresh_sound, fresh_blank}
use Rattle.voters.proofs.sub.Sub.new.Goals as goal

pub new-requires : goal.new-requires
new-requires c = rw c.voters.ensures.value (omega (arith, c.total-total.ensures, c.total-total.type_inv))

pub invariant_of-result : goal.invariant_of-result
invariant_of-result c =
    let vs = c.args.panel.now.voters in
    let kept = c.voters.ensures.panel in
    let count : c.in_ok-count.count ≡ map fresh vs = c.in_ok-count.ensures ∙ ap (λ (xs : List Voter). map fresh xs) c.voters.ensures.value in
    record {
      sound = rw (count, c.threshold.ensures) (fresh_sound vs c.args.panel.now.threshold kept.reachable kept.most);
      total = c.total-total.ensures ∙ sym (rw count (new_total vs));
      few = rw (count, length-map) kept.few;
    }

pub returns : goal.returns
returns c =
    let vs = c.args.panel.now.voters in
    let count : c.in_ok-count.count ≡ map fresh vs = c.in_ok-count.ensures ∙ ap (λ (xs : List Voter). map fresh xs) c.voters.ensures.value in
    rw (count, c.threshold.ensures, fresh_blank vs) refl
