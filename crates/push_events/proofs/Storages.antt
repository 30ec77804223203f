-- A storage is admitted; the factor assigns other storages.
use Rattle.std.proofs.Common.{arith}
use Rattle.replica_invariant.specs.Creations.{AdmitKeeps, AssignKeeps}

pub admit_keeps : AdmitKeeps
admit_keeps st i = record {
  source = i.source;
  log = i.log;
  replicas = i.replicas;
  blank = i.blank;
  turn = i.turn;
  shape = record {
    some = i.shape.some;
    known = λ s a. i.shape.known s (omega (arith, a));
    fresh = λ s a. i.shape.fresh s (omega (arith, a));
  };
}

pub assign_keeps : AssignKeeps
assign_keeps st m i some known =
    record {
      source = i.source;
      log = i.log;
      replicas = i.replicas;
      blank = i.blank;
      turn = i.turn;
      shape = record { some = some; known = known; fresh = i.shape.fresh };
    }
