-- Placing a node: what a map answers, and the points of its nodes then.
use Rattle.std.specs.Prelude.{ℕ, Bool, false, cond, not, ◌&&◌, ◌||◌, List, [], ◌∷◌, ◌++◌, length, fold, is_ok, Ok, Err, Result, ◌==◌, nat_le, unsigned_abs}
use Rattle.plane.specs.declared.Point.{Point}
use Rattle.plane.specs.Plane.{turn, farthest, point}
use Rattle.floor.specs.declared.map.PlaceRefusal.{PlaceRefusal}
use Rattle.floor.specs.declared.map.PlaceRefusal.TheVariants.{Full, OutOfRange, Occupied, OnALine}
use Rattle.std.specs.List.{list_any}

-- the number of each refusal
abbrev pub number_of : PlaceRefusal → ℕ
number_of Full = 21
number_of OutOfRange = 22
number_of Occupied = 23
number_of OnALine = 24

abbrev pub in_range : Point → Bool
in_range p = nat_le p.x farthest && nat_le p.y farthest

abbrev pub same : Point → Point → Bool
same p q = p.x == q.x && p.y == q.y

-- the three are on one line
abbrev pub straight : Point → Point → Point → Bool
straight a b c = unsigned_abs (turn a b c) == 0

-- p is on a line with two of the points
abbrev pub on_a_line : List Point → Point → Bool
on_a_line [] p = false
on_a_line (a ∷ points) p = list_any (λ b. straight a b p) points || on_a_line points p

-- the answer to placing p: the number of the new node, or the first refusal that holds
abbrev pub placing : List Point → Point → Result ℕ PlaceRefusal
placing points p =
    cond (nat_le 64 (length points)) (Err Full)
    (cond (not (in_range p)) (Err OutOfRange)
    (cond (list_any (same p) points) (Err Occupied)
    (cond (on_a_line points p) (Err OnALine)
    (Ok (length points)))))

-- the points after it: one more, or the same where it is refused
abbrev pub placed : List Point → Point → List Point
placed points p = cond (is_ok (placing points p)) (points ++ p ∷ []) points

-- the points after placing at these coordinates, one after the other
abbrev pub all_placed : List (ℕ × ℕ) → List Point
all_placed coordinates = fold (λ (points : List Point) (p : ℕ × ℕ). placed points (point p)) [] coordinates
