-- Making a host of a map.
use Rattle.std.specs.Prelude.{◌≡◌, ℕ, true, cond, ◌&&◌, List, map, Some, None, Ok, Err, Option, Result, nat_le}
use Rattle.plane.specs.declared.Point.{Point}
use Rattle.floor.specs.declared.map.Map.{Map}
use Rattle.floor.specs.Map.{points_of}
use Rattle.floor.specs.Meaning.{Meaning}
use Rattle.host.specs.declared.making.MakeRefusal.{MakeRefusal}
use Rattle.host.specs.declared.making.MakeRefusal.TheVariants.{ReachOutOfRange}
use Rattle.host.specs.declared.making.Unmade.{Unmade}

-- the number of each refusal
abbrev pub number_of : MakeRefusal → ℕ
number_of ReachOutOfRange = 31

-- why no host with this reach is made
abbrev pub refusal : ℕ → Option MakeRefusal
refusal reach = cond (nat_le 1 reach && nat_le reach 46340) None (Some ReachOutOfRange)

-- nodes at these points, all in service
abbrev pub all_serving : ℕ → List Point → Meaning
all_serving reach points = record { reach = reach; nodes = map (λ (p : Point). record { point = p; serving = true }) points }

-- a host with that meaning, or the refusal with the map as it was
abbrev pub Made : {H : Type 0} → (H → Meaning) → Map → ℕ → Result H Unmade → Type 0
Made meaning m reach (Ok host) = (refusal reach ≡ None) × (meaning host ≡ all_serving reach (points_of m))
Made meaning m reach (Err unmade) = (refusal reach ≡ Some unmade.why) × (unmade.map ≡ m)
