-- Every list of moves leads to a sound cluster, and each repository goes on by events of its own.
use Rattle.std.proofs.Common.{◌≡◌, ℕ, List, [], ◌∷◌, Option, None, Some, refl, sym, ◌∙◌, ap, subst, inl, inr}
use Rattle.px_base.specs.Update.{AreUpdates}
use Rattle.px_base.specs.declared.ids.TxId.{TxId}
use Rattle.px_base.specs.declared.push.Push.{Push}
use Rattle.refstore.specs.Hook.{vote_on}
use Rattle.node_calls.specs.Whole.{IsWhole}
use Rattle.px_cluster.specs.Astray.{GoesAstray, Happens, IsLost, Move, Moves, MovesOn}
use Rattle.px_cluster.specs.Book.{Repository}
use Rattle.px_cluster.specs.Cluster.{Cluster, Destination}
use Rattle.px_cluster.specs.Core.{repository}
use Rattle.px_cluster.specs.Events.{Answer, Event}
use Rattle.px_cluster.specs.Events as event
use Rattle.replica_invariant.specs.Contents.{Updates, Vote}
use Rattle.safe_states.specs.Grows.{LeadsTo, Stays}
use Rattle.safe_states.specs.Happens.{IsReached}
use Rattle.safe_states.proofs.EventLists.{leads_on, reached_on}
use Rattle.cluster_form.specs.Form.{HasForm}
use Rattle.cluster_form.proofs.FormKept.{form_kept}
use Rattle.cluster_form.proofs.Lists.{some_is}
use Rattle.cluster_history.specs.Goes.{Goes, GoesOn, IsOneList, IsOneListUnder, IsSound}
use Rattle.cluster_history.specs.History.{Whole}
use Rattle.cluster_history.specs.Remembered.{after_move}
use Rattle.cluster_history.specs.Seen.{state_of}
use Rattle.cluster_runs.specs.Lists.{AreLawful, HaveOneList, IsPreparedIn, prepared_by, prepared_by_event}
use Rattle.cluster_runs.specs.Runs.{EachMoveGoesOn, HasOneList}
use Rattle.cluster_runs.proofs.Grown.{LeadsThere, leads_there}
use Rattle.cluster_runs.proofs.Nodes.{MoveSends, NodesMove, SendsLawful, nodes_move}
use Rattle.cluster_runs.proofs.Quiet.{quiet_stays}
use Rattle.cluster_runs.proofs.Remains.{text_remains}
use Rattle.cluster_runs.proofs.Texts.{LeadApart, one_text, text_in}
use Rattle.cluster_runs.proofs.Wholes.{AreSnapshotsLawful, IsLawful, snapshot_lawful, snapshots_stay, wholes_stay}

-- ---- what is kept

-- it is sound, what the nodes hold is whole, and so are the snapshots that are kept
pub record IsKept (whole : Whole) : Type 0 where
  pub sound : IsSound whole
  pub nodes : (storage : ℕ) → IsWhole (whole.cluster.node storage)
  pub snapshots : AreSnapshotsLawful whole.cluster

-- a push that the move hands over is lawful
abbrev IsSent : Push → Type 0
IsSent push = AreUpdates push.updates

abbrev Sends : Move → Type 0
Sends (Happens happened answer) = SendsLawful IsSent happened
Sends (GoesAstray happened) = SendsLawful IsSent happened
Sends (IsLost storage test) = Unit {0}

module _ (each : EachMoveGoesOn) where
  module _ (old : Whole) (new : Cluster) (move : Move) (kept : IsKept old)
      (one : HasOneList old move) (moves : Moves old.cluster move new)
      (sends : MoveSends IsSent IsLawful old.cluster
      (λ effect job snapshot is.
      snapshot_lawful old.cluster effect job snapshot kept.snapshots is) move) where
    abbrev then_ : Whole
    then_ = after_move old move new

    form : HasForm new
    form = form_kept old.cluster new move kept.sound.form moves

    goes : GoesOn old then_
    goes = each old move new kept.sound one moves

    reached_by : (repo : ℕ) (book : Repository) (there : Option Repository)
        → repository old.cluster.core repo ≡ there → repository new.core repo ≡ Some book
        → IsReached (state_of then_ repo book)
    reached_by repo book None before is = goes.comes repo book before is
    reached_by repo book (Some was) before is =
        let on = goes.each repo was before in
        let same : on.now ≡ book = some_is on.now book (sym on.there ∙ is) in
        reached_on (state_of old repo was) (state_of then_ repo book)
        (kept.sound.reached repo was before)
        (subst (λ b. LeadsTo (state_of old repo was) (state_of then_ repo b)) same on.leads)

    nodes_ : NodesMove IsSent IsLawful old.cluster new
    nodes_ = nodes_move IsSent IsLawful old.cluster
        (λ effect job snapshot is. snapshot_lawful old.cluster effect job snapshot kept.snapshots is)
        new move sends moves

    pub kept_on : IsKept then_
    kept_on = record {
      sound = record {
        form = form;
        reached = λ repo book is. reached_by repo book (repository old.cluster.core repo) refl is;
        quiet = quiet_stays IsSent IsLawful old.cluster new move kept.sound.form form moves nodes_
            kept.sound.quiet;
      };
      nodes = wholes_stay old.cluster new nodes_ kept.nodes;
      snapshots = snapshots_stay old.cluster kept.nodes new move moves kept.snapshots;
    }

-- ---- what a list of moves keeps of itself

pub form_on : (moves : List Move) (old new : Cluster) → HasForm old → MovesOn old moves new → HasForm new
form_on [] old new form is = subst HasForm (sym is) form
form_on (move ∷ moves) old new form is =
    form_on moves is.0 new (form_kept old is.0 move form is.1) is.2

-- a transaction leads on to where it led
pub leads_on_to : (tx : ℕ) (to : Destination) (moves : List Move) (old new : Cluster)
    → LeadsThere tx to old → MovesOn old moves new → new.pushed tx ≡ Some to
leads_on_to tx to [] old new leads is = ap (λ (c : Cluster). c.pushed tx) is ∙ leads.0
leads_on_to tx to (move ∷ moves) old new leads is =
    leads_on_to tx to moves is.0 new (leads_there tx to old is.0 move leads is.1) is.2

-- ---- a run, with the lists of updates that were chosen before

module _ (each : EachMoveGoesOn) (pushed : ℕ → Option Destination) (all : List Move)
    (apart : LeadApart pushed) (premise : HaveOneList all) (lawful : AreLawful all) where
  abbrev text : ℕ → ℕ → Vote → Updates
  text = text_in pushed all

  abbrev IsAmong : Move → Type 0
  IsAmong move = (tx : TxId) (push : Push)
      → prepared_by move ≡ Some (record { tx = tx; push = push }) → IsPreparedIn all tx push

  one_under : (old : Whole) (tx : TxId) (push : Push) (there : Option Destination)
      → old.cluster.pushed tx.0 ≡ there → IsPreparedIn all tx push → old.history.text ≡ text
      → ((to : Destination) → old.cluster.pushed tx.0 ≡ Some to → pushed tx.0 ≡ Some to)
      → IsOneListUnder old there push
  one_under old tx push None there is same leads = tt
  one_under old tx push (Some to) there is same leads =
      one_text pushed all apart premise tx push to (leads to there) is
      ∙ ap (λ (f : ℕ → ℕ → Vote → Updates). f to.repo to.number (vote_on push.updates)) (sym same)

  one_at : (old : Whole) (happened : Event)
      → ((tx : TxId) (push : Push) → prepared_by_event happened ≡ Some (record { tx = tx; push = push })
      → IsPreparedIn all tx push) → old.history.text ≡ text
      → ((tx : ℕ) (to : Destination) → old.cluster.pushed tx ≡ Some to → pushed tx ≡ Some to)
      → IsOneList old happened
  one_at old (event.Prepare tx storage push) among same leads =
      one_under old tx push (old.cluster.pushed tx.0) refl (among tx push refl) same (leads tx.0)
  one_at old other among same leads = tt

  has_one : (old : Whole) (move : Move) → IsAmong move → old.history.text ≡ text
      → ((tx : ℕ) (to : Destination) → old.cluster.pushed tx ≡ Some to → pushed tx ≡ Some to)
      → HasOneList old move
  has_one old (Happens happened answer) among same leads = one_at old happened among same leads
  has_one old (GoesAstray happened) among same leads = one_at old happened among same leads
  has_one old (IsLost storage test) among same leads = tt

  sends_at : (happened : Event)
      → ((tx : TxId) (push : Push) → prepared_by_event happened ≡ Some (record { tx = tx; push = push })
      → IsPreparedIn all tx push) → SendsLawful IsSent happened
  sends_at (event.Prepare tx storage push) among = lawful tx push (among tx push refl)
  sends_at other among = tt

  sends : (move : Move) → IsAmong move → Sends move
  sends (Happens happened answer) among = sends_at happened among
  sends (GoesAstray happened) among = sends_at happened among
  sends (IsLost storage test) among = tt

  -- where a list of moves led
  pub record Ran (old : Whole) (new : Cluster) : Type 0 where
    pub now : Whole
    pub is : now.cluster ≡ new
    pub kept : IsKept now
    pub same : now.history.text ≡ text
    pub follows : (repo : ℕ) (book : Repository) → repository old.cluster.core repo ≡ Some book
        → Goes old now repo book

  stands : (old : Whole) (repo : ℕ) (book : Repository)
      → repository old.cluster.core repo ≡ Some book → Goes old old repo book
  stands old repo book there = record {
    now = book;
    there = there;
    leads = Stays (state_of old repo book);
  }

  -- the one after the other
  goes_on : (old between new : Whole) (repo : ℕ) (book : Repository)
      → (first : Goes old between repo book) → Goes between new repo first.now
      → Goes old new repo book
  goes_on old between new repo book first then_ = record {
    now = then_.now;
    there = then_.there;
    leads = leads_on (state_of old repo book) (state_of between repo first.now)
        (state_of new repo then_.now) first.leads then_.leads;
  }

  pub run_on : (moves : List Move) (old : Whole) (new : Cluster)
      → ((tx : TxId) (push : Push) → IsPreparedIn moves tx push → IsPreparedIn all tx push)
      → IsKept old → old.history.text ≡ text
      → ((tx : ℕ) (to : Destination) → new.pushed tx ≡ Some to → pushed tx ≡ Some to)
      → MovesOn old.cluster moves new → Ran old new
  run_on [] old new within kept same leads is = record {
    now = old;
    is = sym is;
    kept = kept;
    same = same;
    follows = stands old;
  }
  run_on (move ∷ moves) old new within kept same leads is =
      let among : IsAmong move = (λ tx push by. within tx push (inl by)) in
      let there : (tx : ℕ) (to : Destination) → old.cluster.pushed tx ≡ Some to → pushed tx ≡ Some to =
      (λ tx to at. leads tx to (leads_on_to tx to (move ∷ moves) old.cluster new
      (at, (kept.sound.form.routes.pushes.each tx to at).given) is)) in
      let one = has_one old move among same there in
      let next : Whole = after_move old move is.0 in
      let on = kept_on each old is.0 move kept one is.1 (sends move among) in
      let rest = run_on moves next new (λ tx push by. within tx push (inr by)) on
      (text_remains old move ∙ same) leads is.2 in
      let goes = each old move is.0 kept.sound one is.1 in
      record {
        now = rest.now;
        is = rest.is;
        kept = rest.kept;
        same = rest.same;
        follows = λ repo book there_. let first = goes.each repo book there_ in
            goes_on old next rest.now repo book first (rest.follows repo first.now first.there);
      }
