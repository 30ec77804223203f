-- Every state on the way of lines is safe.
use Rattle.std.proofs.Common.{◌++◌, List, [], ◌∷◌, inl, inr, subst, sym, ℕ}
use Rattle.px_base.specs.declared.ids.TxId.{TxId}
use Rattle.px_base.specs.declared.push.Push.{Push}
use Rattle.px_script.specs.declared.event.Event.{Event}
use Rattle.script_rules.proofs.LawfulLines.{lines_are_lawful}
use Rattle.script_rules.proofs.ScriptMoves.{every_state_is_safe}
use Rattle.script_rules.specs.Prepared.{AreLawful, HaveOneList, IsPreparedIn}
use Rattle.px_world.specs.Rehearsal.{AreSafe}

-- what is prepared in the first events is prepared in all
prepared_in_all : (asked rest : List Event) (tx : TxId) (push : Push) → IsPreparedIn asked tx push
    → IsPreparedIn (asked ++ rest) tx push
prepared_in_all [] rest tx push is = absurd is
prepared_in_all (event ∷ asked) rest tx push (inl is) = inl is
prepared_in_all (event ∷ asked) rest tx push (inr is) =
    inr (prepared_in_all asked rest tx push is)

-- so the premise and the form of updates hold of the first events where they hold of all
one_list_before : (asked rest : List Event) → HaveOneList (asked ++ rest) → HaveOneList asked
one_list_before asked rest all tx one other is is_other =
    all tx one other (prepared_in_all asked rest tx one is)
    (prepared_in_all asked rest tx other is_other)

lawful_before : (asked rest : List Event) → AreLawful (asked ++ rest) → AreLawful asked
lawful_before asked rest all tx push is = all tx push (prepared_in_all asked rest tx push is)

pub lines_are_safe : (lines : List (List ℕ)) → AreSafe lines
lines_are_safe lines asked all premise old new states rest whole =
    every_state_is_safe old new states
    (lawful_before _ rest (subst AreLawful (sym whole) (lines_are_lawful lines asked all)))
    (one_list_before _ rest (subst HaveOneList (sym whole) premise))
