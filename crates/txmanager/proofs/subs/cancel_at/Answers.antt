use Rattle.std.proofs.Common.{Some, ap, sym, ◌∙◌}
use Rattle.std.proofs.lemmas.Option.{get_or_from_slice_get, slice_get-get_or}
use Rattle.voters.specs.Votes.{Votes, after}
use Rattle.voters.specs.declared.act.Act.TheVariants as act
use Rattle.txmanager.specs.VoterCalls.{cancel_in_sub}
use Rattle.txmanager.proofs.CallLemmas.{set_unless}
use Rattle.txmanager.proofs.subs.cancel_at.Goals as goal

pub returns-clause-answer : goal.returns-clause-answer
returns-clause-answer c = λ votes there.
    c.cancel_sub.ensures.answer
    ∙ ap (cancel_in_sub c.args.name.now c.args.voter) (c.index_mut-sub.ensures.value ∙ get_or_from_slice_get c.args.subs.now.items c.args.at votes c.index_mut-sub.result.now there)

pub returns-clause-state : goal.returns-clause-state
returns-clause-state c =
    set_unless c.cancel_sub.result c.args.subs.now.items c.args.at c.index_mut-sub.result.now c.cancel_sub.new.sub (λ (votes : Votes). after votes (act.Cancel c.args.voter))
    (slice_get-get_or c.args.subs.now.items c.args.at c.index_mut-sub.result.now c.requires ∙ ap (λ (votes : Votes). Some votes) (sym c.index_mut-sub.ensures.value))
    c.index_mut-sub.ensures.value c.cancel_sub.ensures.state
