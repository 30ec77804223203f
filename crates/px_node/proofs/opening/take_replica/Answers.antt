-- What a row tells of a repository is taken over.
use Rattle.std.proofs.Common.{ℕ, List, sym, subst, ap}
use Rattle.px_base.specs.RepoPath.{IsRepoPath}
use Rattle.node_calls.specs.ReplicaState.{ReplicaState}
use Rattle.node_rows.specs.Reading.{said}
use Rattle.px_node.proofs.OpeningLemmas.{told_put}
use Rattle.px_node.proofs.Places.{Changes-put}
use Rattle.px_node.specs.Shelf.{Puts}
use Rattle.px_node.proofs.opening.take_replica.Goals as goal

pub returns-in-Ok-put-clause-ok : goal.returns-in-Ok-put-clause-ok
returns-in-Ok-put-clause-ok c =
    let row = c.in-Some.row in
    let place : ReplicaState = said row.fence row.last row.held in
    let old = c.args.replicas.now.entries in
    let new = c.put.new.replicas.entries in
    record {
      row = record {
        lawful = c.in-Ok.ensures.ok.0;
        fence = row.fence;
        last = row.last;
        held = row.held;
        is = c.in-Some.ensures.says;
        fence_fits = c.in-Some.ensures.fits.0;
        last_fits = c.in-Some.ensures.fits.1;
      };
      changes = Changes-put old new c.args.key.now place
          (subst (λ (p : List ℕ). Puts old new p place) c.in-Ok.ensures.ok.1
          (subst (Puts old new c.in-Ok.repo) c.told-replica.ensures
          c.in-Ok-put.ensures.ok));
    }

pub returns-in-Ok-put-clause-told : goal.returns-in-Ok-put-clause-told
returns-in-Ok-put-clause-told c =
    told_put c.args.replicas.now.entries c.put.new.replicas.entries c.in-Ok.repo
    c.told-replica.result c.in-Ok-put.ensures.ok c.requires.told c.is_lawful.ensures
    (ap (λ (p : ReplicaState). p.ready) c.told-replica.ensures)
    (subst IsRepoPath (sym c.in-Ok.ensures.ok.1) c.in-Ok.ensures.ok.0)
