use Rattle.std.proofs.Common.{◌≡◌, ◌<◌, ◌∙◌, ap, sym, length, get_or, rules, arith}
use Rattle.std.proofs.lemmas.List.{places}
use Rattle.std.proofs.lemmas.List.Edits.{map_over_more}
use Rattle.std.proofs.lemmas.Grind.{common_steps}
use Rattle.px_cluster.specs.Book.{Repository}
use Rattle.px_cluster.specs.Creating.{with_storage}
use Rattle.genbook.specs.Longer.{with_next}
use Rattle.genbook.proofs.Admissions.{one_longer, rest_longer}
use Rattle.genbook.proofs.admission.lengthen.Goals as goal

pub loop-repository-preserved : goal.loop-repository-preserved
loop-repository-preserved c virt storage fits =
    let so_far = c.loop-repository.invariant virt storage fits in
    let i = c.loop-repository.repository-index in
    let repositories = c.args.repositories.now in
    let repo = c.repository-item.result in
    let within : i < length repositories = search rules in
    let is : repo ≡ get_or repositories i repo = grind (arith, common_steps, places, so_far.0, c.repository-item.is) in
    let new = c.lengthen_next.ensures.repository
    ∙ ap (λ (r : Repository). with_next c.loop-repository.longer.items r) (sym c.repository-item.is)
    ∙ one_longer virt storage i repositories repo within is c.loop-repository.longer.items so_far.1 in (
      grind (arith, common_steps, map_over_more (with_storage virt storage), new, so_far.0),
      c.lengthen_next.ensures.rest ∙ rest_longer virt storage i repositories repo within is c.loop-repository.longer.items so_far.1,
    )
