-- What the nodes that a host keeps mean.
use Rattle.std.specs.Prelude.{Bool, false, List, [], ◌∷◌}
use Rattle.floor.specs.Map.{points_of}
use Rattle.plane.specs.declared.Point.{Point}
use Rattle.floor.specs.declared.node.Radio.{Radio}
use Rattle.floor.specs.Meaning.{Meaning}
use Rattle.host.specs.declared.storey.Storey.{Storey}

-- each point with its mark; a point that has no mark is out of service
abbrev pub radios : List Point → List Bool → List Radio
radios [] marks = []
radios (p ∷ ps) [] = record { point = p; serving = false } ∷ radios ps []
radios (p ∷ ps) (mark ∷ marks) = record { point = p; serving = mark } ∷ radios ps marks

abbrev pub meaning_of : Storey → Meaning
meaning_of s = record { reach = s.reach; nodes = radios (points_of s.map) s.serving }
