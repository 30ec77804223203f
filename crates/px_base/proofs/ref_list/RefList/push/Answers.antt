use Rattle.std.proofs.Common.{subst, sym, ap, ◌∙◌, ◌∷◌, ◌++◌, []}
use Rattle.px_base.specs.RefList.{IsRefList, References}
use Rattle.px_base.proofs.ref_list.RefList.push.Goals as goal

pub invariant_of-self-2 : goal.invariant_of-self-2
invariant_of-self-2 c =
    subst IsRefList
    (sym (c.in_ok-push.ensures.ok ∙ ap (λ (l : References). l ++ (c.args.name, c.args.id) ∷ []) c.self.view_is))
    c.requires
