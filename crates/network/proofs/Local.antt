-- A send is local: what the receiver makes of the packet rests on its own point and neighbours alone
use Rattle.std.proofs.Common.{◌≡◌, ℕ, suc, ◌+◌, Bool, true, false, cond, not, ◌&&◌, ◌||◌, eqb, ltb, ◌≢◌, List, [], ◌∷◌, Some, None, Option, sym, refl, ap, ◌∙◌, zero-add, arith}
use borrow.Author.Tests.{eqb-false, not-true}
use Rattle.std.proofs.lemmas.Bool.{cond_both, and_parts}
use Rattle.plane.specs.declared.Point.{Point}
use Rattle.floor.specs.declared.node.Node.{Node}
use Rattle.floor.specs.declared.node.Radio.{Radio}
use Rattle.std.specs.List.{slice_get, filter, list_any}
use Rattle.floor.specs.Numbers.{differ}
use Rattle.floor.specs.Meaning.{Meaning, Mapped, radio, place_of, point_at, hear, heard, heard_by, neighbours, known_as, node}
use Rattle.floor.specs.Planar.{Blocks}
use Rattle.kept.specs.Kept.{kept}
use Rattle.face.specs.declared.record.Link.{Link}
use Rattle.face.specs.declared.record.Record.{Record}
use Rattle.face.specs.Packet.{verdict, under, send, sent_along, received}
use Rattle.network.specs.declared.types.Refusal.TheVariants.{NoLine}
use Rattle.network.specs.Network.{Net, made, On, Hop, Answer, Denied, Opened, Hopped, Carried, Collected, Switched, refused, on_line, hopped_on, call_on, called, answer}
use Rattle.network.specs.Law.{Journey, whole_past, network_now, host_now, Alike, Local}
use Rattle.network.proofs.Options.{unsome, get_set}
use Rattle.network.proofs.Marks.{mapped_after}
use Rattle.network.proofs.Calls.{host_told}

-- ---- each of a list

abbrev Each : {A : Type 0} → (A → Type 0) → List A → Type 0
Each P [] = Unit {0}
Each P (x ∷ xs) = P x × Each P xs

each_map : {A : Type 0} {P Q : A → Type 0} → ((x : A) → P x → Q x) → (xs : List A) → Each P xs → Each Q xs
each_map f [] h = tt
each_map f (x ∷ xs) h = (f x h.0, each_map f xs h.1)

some_alike : {A : Type 0} (f g : A → Bool) (xs : List A) → Each (λ (x : A). f x ≡ g x) xs → list_any f xs ≡ list_any g xs
some_alike f g [] h = refl
some_alike f g (x ∷ xs) h = λ i. h.0 i || some_alike f g xs h.1 i

filter_alike : {A : Type 0} (f g : A → Bool) (xs : List A) → Each (λ (x : A). f x ≡ g x) xs → filter f xs ≡ filter g xs
filter_alike f g [] h = refl
filter_alike f g (x ∷ xs) h = λ i. let rest = filter_alike f g xs h.1 i in cond (h.0 i) (x ∷ rest) rest

and_alike : (x y z : Bool) → (x ≡ true → y ≡ z) → (x && y) ≡ (x && z)
and_alike true y z h = h refl
and_alike false y z h = refl

-- ---- the neighbours of node i are other nodes, where the host has them

differ_not : (i j : ℕ) → differ i j ≡ true → i ≢ j
differ_not i j h = eqb-false i j (not-true (eqb i j) h)

module _ (m : Meaning) (i : ℕ) where
  abbrev Other : Node → Type 0
  Other v = (i ≢ v.number) × (point_at m v.number ≡ Some v.point)

  others_heard : (p : Radio) (j : ℕ) (qs : List Radio) → ((k : ℕ) → slice_get m.nodes (j + k) ≡ slice_get qs k) → Each Other (heard m.reach i p j qs)
  others_heard p j [] h = tt
  others_heard p j (q ∷ qs) h =
      let rest : Each Other (heard m.reach i p (suc j) qs)
      = others_heard p (suc j) qs (λ k. ap (slice_get m.nodes) (let e : suc j + k ≡ j + suc k = omega arith in e) ∙ h (suc k)) in
      let here : slice_get m.nodes j ≡ Some q = ap (slice_get m.nodes) (let e : j ≡ j + 0 = omega arith in e) ∙ h 0 in
      cond_both (differ i j && hear m.reach p q) _ _ (Each Other)
      (λ t. ((differ_not i j (and_parts (differ i j) (hear m.reach p q) t).0, ap place_of here), rest))
      (λ _. rest)

  others_by : (o : Option Radio) → Each Other (heard_by m i o)
  others_by None = tt
  others_by (Some p) = others_heard p 0 m.nodes (λ k. ap (slice_get m.nodes) (zero-add k))

  others : Each Other (neighbours m i)
  others = others_by (radio m i)

-- ---- planarisers that answer alike keep the same links

module _ (b b' : Blocks) (alike : Alike b b') (m : Meaning) (M : Mapped m) where
  kept_alike : (i : ℕ) (p : Point) → point_at m i ≡ Some p → kept b p (neighbours m i) ≡ kept b' p (neighbours m i)
  kept_alike i p at = filter_alike _ _ (neighbours m i) (each_map unblocked (neighbours m i) (others m i))
    where
      blocked : (v w : Node) → Other m i v → Other m i w → (differ w.number v.number && b p v.point w.point) ≡ (differ w.number v.number && b' p v.point w.point)
      blocked v w V W =
          and_alike (differ w.number v.number) _ _
          (λ d. alike p v.point w.point
          (M.general.apart i v.number p v.point V.0 at V.1)
          (M.general.apart i w.number p w.point W.0 at W.1)
          (M.general.apart v.number w.number v.point w.point (λ e. differ_not w.number v.number d (sym e)) V.1 W.1))

      unblocked : (v : Node) → Other m i v
          → not (list_any (λ (w : Node). differ w.number v.number && b p v.point w.point) (neighbours m i))
          ≡ not (list_any (λ (w : Node). differ w.number v.number && b' p v.point w.point) (neighbours m i))
      unblocked v V = ap not (some_alike _ _ (neighbours m i) (each_map (λ w W. blocked v w V W) (neighbours m i) (others m i)))

  received_at : (r : Record) (k : Link) (i : ℕ) (o : Option Radio) → radio m i ≡ o → received b r k (known_as i o) (neighbours m i) ≡ received b' r k (known_as i o) (neighbours m i)
  received_at r k i None e = refl
  received_at r k i (Some p) e =
      ap (λ (ns : List Node). under r i (verdict (record { number = i; point = p.point }) ns r k.from)) (kept_alike i p.point (ap place_of e))

  received_alike : (r : Record) (k : Link) (i : ℕ) → received b r k (node m i) (neighbours m i) ≡ received b' r k (node m i) (neighbours m i)
  received_alike r k i = received_at r k i (radio m i) refl

-- ---- a node is known by its number and point

abbrev node_at : ℕ → Option Point → Option Node
node_at i None = None
node_at i (Some p) = Some (record { number = i; point = p })

node_by : (i : ℕ) (o : Option Radio) → known_as i o ≡ node_at i (place_of o)
node_by i None = refl
node_by i (Some p) = refl

node_is : (m : Meaning) (i : ℕ) → node m i ≡ node_at i (point_at m i)
node_is m i = node_by i (radio m i)

-- ---- what an accepted hop shows: the record, its link in hand to v, and the record after

abbrev receiver : Answer → Option ℕ
receiver (Denied k) = None
receiver Opened = None
receiver (Hopped h) = Some h.1
receiver (Carried hs stop) = None
receiver (Collected e n) = None
receiver Switched = None

abbrev HopShows : Blocks → Net → ℕ → ℕ → Net × Answer → Type 0
HopShows b n l v a = (r : Record) × (k : Link) × (on_line n l ≡ Some r) × (r.hand ≡ Some k) × (k.to ≡ v) × (on_line a.0 l ≡ Some (send b n.host r))

module _ (b : Blocks) (n : Net) (l v : ℕ) where
  shows_link : (r : Record) (o : Option Link) → on_line n l ≡ Some r → r.hand ≡ o → receiver (hopped_on b n l r o).1 ≡ Some v → HopShows b n l v (hopped_on b n l r o)
  shows_link r None held e h = cc
  shows_link r (Some k) held e h = (r, k, held, e, unsome k.to v h, get_set n.lines l r (Some (send b n.host r)) held)

  shows_line : (o : Option Record) → on_line n l ≡ o → receiver (call_on b n l o Hop).1 ≡ Some v → HopShows b n l v (call_on b n l o Hop)
  shows_line None e h = cc
  shows_line (Some r) e h = shows_link r r.hand e refl h

  shows : (x : Bool) → receiver (cond x (n, refused NoLine) (call_on b n l (on_line n l) Hop)).1 ≡ Some v → HopShows b n l v (cond x (n, refused NoLine) (call_on b n l (on_line n l) Hop))
  shows true h = cc
  shows false h = shows_line (on_line n l) refl h

hop_shows : (b : Blocks) (n : Net) (l u v : ℕ) → answer b n (On l Hop) ≡ Hopped (u, v) → HopShows b n l v (called b n (On l Hop))
hop_shows b n l u v h = shows b n l v (ltb 15 l) (ap receiver h)

send_is : (b : Blocks) (m : Meaning) (r : Record) (k : Link) (v : ℕ) → r.hand ≡ Some k → k.to ≡ v → send b m r ≡ received b r k (node m v) (neighbours m v)
send_is b m r k v h e = ap (sent_along b m r) h ∙ ap (λ (w : ℕ). received b r k (node m w) (neighbours m w)) e

-- ---- the clause of the law

pub local : (b : Blocks) (m : Meaning) → Mapped m → (P : Journey b m) → Local b m P
local b m M P b' m' Q u v u' v' alike hP hQ same point near =
    let p = hop_shows b (network_now P) P.line u v hP in
    let q = hop_shows b' (network_now Q) Q.line u' v' hQ in
    let rr : p.0 ≡ q.0 = unsome p.0 q.0 (sym p.2 ∙ same ∙ q.2) in
    let kk : p.1 ≡ q.1 = unsome p.1 q.1 (sym p.3 ∙ ap (λ (r : Record). r.hand) rr ∙ q.3) in
    let vv : v ≡ v' = sym p.4 ∙ ap (λ (k : Link). k.to) kk ∙ q.4 in
    let hostP : (network_now P).host ≡ host_now P = host_told b (made m) (whole_past P) P.past in
    let hostQ : (network_now Q).host ≡ host_now Q = host_told b' (made m') (whole_past Q) Q.past in
    let sP : send b (network_now P).host p.0 ≡ received b p.0 p.1 (node (host_now P) v) (neighbours (host_now P) v)
    = ap (λ (h : Meaning). send b h p.0) hostP ∙ send_is b (host_now P) p.0 p.1 v p.3 p.4 in
    let sQ : send b' (network_now Q).host q.0 ≡ received b' q.0 q.1 (node (host_now Q) v') (neighbours (host_now Q) v')
    = ap (λ (h : Meaning). send b' h q.0) hostQ ∙ send_is b' (host_now Q) q.0 q.1 v' q.3 q.4 in
    let nn : node (host_now P) v ≡ node (host_now Q) v' = node_is (host_now P) v ∙ (λ i. node_at (vv i) (point i)) ∙ sym (node_is (host_now Q) v') in
    let mid : received b' p.0 p.1 (node (host_now P) v) (neighbours (host_now P) v) ≡ received b' q.0 q.1 (node (host_now Q) v') (neighbours (host_now Q) v')
    = λ i. received b' (rr i) (kk i) (nn i) (near i) in
    let swap = received_alike b b' alike (host_now P) (mapped_after m (whole_past P) M) p.0 p.1 v in
    p.5 ∙ ap Some (sP ∙ swap ∙ mid ∙ sym sQ) ∙ sym q.5
