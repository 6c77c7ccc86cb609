-- Whatever marks are set, the nodes form the same map
use Rattle.std.proofs.Common.{◌≡◌, ℕ, zero, suc, ◌≤◌, Bool, true, false, cond, List, [], ◌∷◌, set, Some, None, Option, sym, refl, ap, ◌∙◌, subst, length-set}
use Rattle.plane.specs.declared.Point.{Point}
use Rattle.floor.specs.declared.node.Radio.{Radio}
use Rattle.std.specs.List.{slice_get}
use Rattle.floor.specs.Position.{GeneralPosition}
use Rattle.floor.specs.Meaning.{Meaning, Mapped, radio, place_of}
use Rattle.host.specs.Questions.{marked, with_mark}
use Rattle.network.specs.Law.{Event, is_switching, marked_by, host_after}
use Rattle.network.specs.Network.{Call, On, Withdraw, Return}

-- some of the points of a general position are in general position
general_within : {f g : ℕ → Option Point} → ((j : ℕ) (p : Point) → g j ≡ Some p → f j ≡ Some p) → GeneralPosition f → GeneralPosition g
general_within into G = record {
  in_range = λ i p a. G.in_range i p (into i p a);
  apart = λ i j p q d a c. G.apart i j p q d (into i p a) (into j q c);
  bent = λ i j k p q r d e f a c h. G.bent i j k p q r d e f (into i p a) (into j q c) (into k r h);
}

place_marked : (rs : List Radio) (i : ℕ) (p : Radio) (mark : Bool) → slice_get rs i ≡ Some p → (j : ℕ) → place_of (slice_get (set rs i (record { point = p.point; serving = mark })) j) ≡ place_of (slice_get rs j)
place_marked [] i p mark h j = refl
place_marked (x ∷ rs) zero p mark h zero = sym (ap place_of h)
place_marked (x ∷ rs) zero p mark h (suc j) = refl
place_marked (x ∷ rs) (suc i) p mark h zero = refl
place_marked (x ∷ rs) (suc i) p mark h (suc j) = place_marked rs i p mark h j

mapped_marked : (m : Meaning) (i : ℕ) (mark : Bool) (o : Option Radio) → radio m i ≡ o → Mapped m → Mapped (marked m i mark o)
mapped_marked m i mark None h M = M
mapped_marked m i mark (Some p) h M = record {
  few = subst (λ (k : ℕ). k ≤ 64) (sym (length-set m.nodes i _)) M.few;
  general = general_within (λ j q a. sym (place_marked m.nodes i p mark h j) ∙ a) M.general;
}

pub mapped_with_mark : (m : Meaning) (i : ℕ) (mark : Bool) → Mapped m → Mapped (with_mark m i mark)
mapped_with_mark m i mark M = mapped_marked m i mark (radio m i) refl M

mapped_by : (m : Meaning) (c : Call) → Mapped m → Mapped (marked_by m c)
mapped_by m (On l c) M = M
mapped_by m (Withdraw i) M = mapped_with_mark m i false M
mapped_by m (Return i) M = mapped_with_mark m i true M

mapped_either : (x : Bool) (m' m : Meaning) → Mapped m' → Mapped m → Mapped (cond x m' m)
mapped_either true m' m M' M = M'
mapped_either false m' m M' M = M

pub mapped_after : (m : Meaning) (es : List Event) → Mapped m → Mapped (host_after m es)
mapped_after m [] M = M
mapped_after m (e ∷ es) M = mapped_after _ es (mapped_either (is_switching e.1) (marked_by m e.0) m (mapped_by m e.0 M) M)
