use Rattle.orbit.proofs.Orbit.{Turning, size, size_bound, face_round, face_closed, front_apart}
use Rattle.orbit.proofs.Darts.{Dart, dart_same}
use native.Mathlib.Nat.{le_refl}
use Rattle.orbit.proofs.faces_close.Goals as goal

-- src/lib.rt:4:1
pub returns : goal.returns
returns c u next closed injective d i =
    let p : Turning Dart = record { same = dart_same; all = u; next = next; closed = closed; injective = injective } in
    (size p d, (face_round p d i).some, size_bound p d i, face_closed p d i, front_apart p d (size p d) i (le_refl (size p d)))
