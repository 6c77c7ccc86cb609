-- Points with their marks: how many, which, and what setting a mark alters.
use Rattle.std.specs.Prelude.{◌≡◌, ℕ, zero, suc, ◌<◌, ◌≤◌, Bool, true, false, List, [], ◌∷◌, map, length, replicate, Some, None, Option, slice_index_or, slice_set, refl}
use Rattle.std.proofs.Common.{sym, ap, ◌∙◌, arith}
use Rattle.plane.specs.declared.Point.{Point}
use Rattle.floor.specs.declared.node.Radio.{Radio}
use Rattle.std.specs.List.{slice_get}
use Rattle.std.proofs.lemmas.Option.{slice_get_past}
use Rattle.floor.specs.Charted.{Charted}
use Rattle.floor.specs.Map.{points_of}
use Rattle.floor.proofs.Charting.{charted}
use Rattle.floor.specs.Meaning.{Meaning, Mapped, radio, place_of, point_at}
use Rattle.host.specs.Laws.{SwitchedBack}
use Rattle.host.specs.Questions.{marked, with_mark}
use Rattle.host.specs.declared.storey.Storey.{Storey}
use Rattle.host.specs.Storeys.{radios, meaning_of}

abbrev pub meant : ℕ → List Point → List Bool → Meaning
meant reach ps marks = record { reach = reach; nodes = radios ps marks }

pub length_radios : (ps : List Point) (marks : List Bool) → length (radios ps marks) ≡ length ps
length_radios [] marks = refl
length_radios (p ∷ ps) [] = ap suc (length_radios ps [])
length_radios (p ∷ ps) (b ∷ marks) = ap suc (length_radios ps marks)

abbrev pub served : Bool → Option Point → Option Radio
served mark None = None
served mark (Some p) = Some (record { point = p; serving = mark })

pub get_radios : (ps : List Point) (marks : List Bool) (i : ℕ) → slice_get (radios ps marks) i ≡ served (slice_index_or marks i false) (slice_get ps i)
get_radios [] marks i = refl
get_radios (p ∷ ps) [] zero = refl
get_radios (p ∷ ps) [] (suc i) = get_radios ps [] i
get_radios (p ∷ ps) (b ∷ marks) zero = refl
get_radios (p ∷ ps) (b ∷ marks) (suc i) = get_radios ps marks i

place_served : (mark : Bool) (o : Option Point) → place_of (served mark o) ≡ o
place_served mark None = refl
place_served mark (Some p) = refl

pub place_radios : (ps : List Point) (marks : List Bool) (i : ℕ) → place_of (slice_get (radios ps marks) i) ≡ slice_get ps i
place_radios ps marks i = ap place_of (get_radios ps marks i) ∙ place_served (slice_index_or marks i false) (slice_get ps i)

pub radio_past : (ps : List Point) (marks : List Bool) (i : ℕ) → length ps ≤ i → slice_get (radios ps marks) i ≡ None
radio_past ps marks i past = get_radios ps marks i ∙ ap (served (slice_index_or marks i false)) (slice_get_past ps i past)

-- the nodes of a map form a map, whatever their marks
mapped_radios : (reach : ℕ) (ps : List Point) (marks : List Bool) → Charted ps → Mapped (meant reach ps marks)
mapped_radios reach ps marks charted = record {
  few = let e = length_radios ps marks in omega (arith, e, charted.few);
  general = record {
    in_range = λ i p a. charted.general.in_range i p (at i p a);
    apart = λ i j p q ij a b. charted.general.apart i j p q ij (at i p a) (at j q b);
    bent = λ i j k p q r ij jk ik a b c. charted.general.bent i j k p q r ij jk ik (at i p a) (at j q b) (at k r c);
  };
}
  where
    at : (i : ℕ) (p : Point) → point_at (meant reach ps marks) i ≡ Some p → slice_get ps i ≡ Some p
    at i p e = sym (place_radios ps marks i) ∙ e

pub mapped_storey : (s : Storey) → Mapped (meaning_of s)
mapped_storey s = mapped_radios s.reach (points_of s.map) s.serving (charted s.map)

-- all in service
pub radios_all : (ps : List Point) (n : ℕ) → length ps ≤ n → radios ps (replicate n true) ≡ map (λ (p : Point). record { point = p; serving = true }) ps
radios_all [] n h = refl
radios_all (p ∷ ps) zero h = absurd (omega arith)
radios_all (p ∷ ps) (suc n) h = ap (λ (rest : List Radio). record { point = p; serving = true } ∷ rest) (radios_all ps n (omega arith))

get_in : {A : Type 0} (xs : List A) (i : ℕ) → i < length xs → (x : A) × (slice_get xs i ≡ Some x)
get_in [] i h = absurd (omega arith)
get_in (x ∷ xs) zero h = (x, refl)
get_in (x ∷ xs) (suc i) h = get_in xs i (omega arith)

radios_set : (ps : List Point) (marks : List Bool) (i : ℕ) (mark : Bool) (p : Point) → slice_get ps i ≡ Some p → i < length marks → radios ps (slice_set marks i mark) ≡ slice_set (radios ps marks) i (record { point = p; serving = mark })
radios_set [] marks i mark p e h = cc
radios_set (q ∷ ps) [] i mark p e h = absurd (omega arith)
radios_set (q ∷ ps) (b ∷ marks) zero mark p e h =
    cc
radios_set (q ∷ ps) (b ∷ marks) (suc i) mark p e h =
    ap (λ (rest : List Radio). record { point = q; serving = b } ∷ rest) (radios_set ps marks i mark p e (omega arith))

-- a mark set is the switching of that node
pub mark_set : (reach : ℕ) (ps : List Point) (marks : List Bool) (i : ℕ) (mark : Bool) → i < length ps → i < length marks → meant reach ps (slice_set marks i mark) ≡ with_mark (meant reach ps marks) i mark
mark_set reach ps marks i mark here room =
    let m = meant reach ps marks in
    let found = get_in ps i here in
    let at : radio m i ≡ Some (record { point = found.0; serving = slice_index_or marks i false }) = get_radios ps marks i ∙ ap (served (slice_index_or marks i false)) found.1 in
    ap (λ (ns : List Radio). record { reach = reach; nodes = ns }) (radios_set ps marks i mark found.0 found.1 room)
    ∙ sym (ap (marked m i mark) at)

pub mark_past : (reach : ℕ) (ps : List Point) (marks : List Bool) (i : ℕ) (mark : Bool) → length ps ≤ i → meant reach ps marks ≡ with_mark (meant reach ps marks) i mark
mark_past reach ps marks i mark past =
    let m = meant reach ps marks in
    sym (ap (marked m i mark) (radio_past ps marks i past))

-- switched and switched back
set_back : {A : Type 0} (xs : List A) (i : ℕ) (x y : A) → slice_get xs i ≡ Some y → slice_set (slice_set xs i x) i y ≡ xs
set_back [] i x y e = refl
set_back (z ∷ zs) zero x y e = cc
set_back (z ∷ zs) (suc i) x y e = ap (λ rest. z ∷ rest) (set_back zs i x y e)

get_once_set : {A : Type 0} (xs : List A) (i : ℕ) (x y : A) → slice_get xs i ≡ Some y → slice_get (slice_set xs i x) i ≡ Some x
get_once_set [] i x y e = cc
get_once_set (z ∷ zs) zero x y e = refl
get_once_set (z ∷ zs) (suc i) x y e = get_once_set zs i x y e

pub switched_back : SwitchedBack
switched_back m i mark p e =
    let q : Radio = record { point = p.point; serving = mark } in
    let once : Meaning = record { reach = m.reach; nodes = slice_set m.nodes i q } in
    ap (λ (n : Meaning). with_mark n i p.serving) (ap (marked m i mark) e)
    ∙ ap (marked once i p.serving) (get_once_set m.nodes i q p e)
    ∙ ap (λ (ns : List Radio). record { reach = m.reach; nodes = ns }) (set_back m.nodes i q p e)
