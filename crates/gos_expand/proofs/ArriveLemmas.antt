-- What comes in at an end is what the table of arrivals says.
use Rattle.std.specs.Prelude.{Option, None, Some, IsSome, if◌then◌else◌}
use Rattle.std.proofs.Common.{◌≡◌, ℕ, zero, suc, nat_eq, ◌+◌, ◌≤◌, Bool, true, false, List, [], ◌∷◌, refl, sym, ap, subst, arith, ◌∙◌, slice_get}
use Rattle.gos_types.specs.Events.{Direction, Request, Answer}
use Rattle.gos_plan.specs.Kinds.{Contact}
use Rattle.gos_plan.specs.Contacts.{held_contact}
use Rattle.gos_plan.specs.Plans.{End, PartEnd, ImportEnd, ResultEnd, Joint, Plan, Fits, IsRight, contact_at, same_end}
use Rattle.gos_plan.specs.Seen.{end_of}
use Rattle.gos_expand.specs.Blocks.{Nets, nets_from, total}
use Rattle.gos_expand.specs.Starts.{Laying, bits_taken, way_size, joint_size, loose_size, joints_start, joint_start, loose_ends_start, loose_ends, parts_start, start_among}
use Rattle.gos_expand.specs.inner.Arrivals.{held_end, arrival_if, or_else, some_if, by_way, start_by_joints, start_by_ends, joined_start, start_at, nets_by, nets_of}
use Rattle.gos_expand.specs.declared.arrivals.Origin.{Origin}
use Rattle.gos_expand.specs.declared.arrivals.Origin.TheVariants.{Cells, Other}
use Rattle.gos_expand.specs.declared.arrivals.Arrival.{Arrival}
use Rattle.gos_expand.specs.Laid.{Seat, seat_among, seat_of, way_start, leaves, arrives_by, arrives}
use Rattle.gos_expand.specs.inner.Numbering.{laid_size}
use Rattle.gos_expand.proofs.BlockLemmas.{total_suc}
use Rattle.gos_expand.proofs.CountLemmas.{asking_there, serving_there}
use Rattle.gos_expand.proofs.SeatLemmas.{joint_fits}

even : (i j : ℕ) → nat_eq i j ≡ nat_eq j i
even zero zero = refl
even zero (suc j) = grind arith
even (suc i) zero = grind arith
even (suc i) (suc j) = let rest = even i j in grind (arith, rest)

same_turned : (d e : End) → same_end d e ≡ same_end e d
same_turned (PartEnd i h) (PartEnd j g) = rw (even i j, even h g) refl
same_turned (PartEnd i h) (ImportEnd j g) = refl
same_turned (PartEnd i h) (ResultEnd g) = refl
same_turned (ImportEnd i h) (PartEnd j g) = refl
same_turned (ImportEnd i h) (ImportEnd j g) = rw (even i j, even h g) refl
same_turned (ImportEnd i h) (ResultEnd g) = refl
same_turned (ResultEnd h) (PartEnd j g) = refl
same_turned (ResultEnd h) (ImportEnd j g) = refl
same_turned (ResultEnd h) (ResultEnd g) = even h g

-- the origin by joints is that of the seat
abbrev Tells : Laying → Plan → Option Origin → Option Seat → Type 0
Tells lay p None None = Unit {0}
Tells lay p None (Some s) = ⊥
Tells lay p (Some a) None = ⊥
Tells lay p (Some a) (Some s) =
    a ≡ by_way (lay.keep s.joint s.way) (way_start lay p s.joint (slice_get p.joints s.joint) s.way) s.other

joints_tell : (lay : Laying) (p : Plan) (x n : ℕ) (js : List Joint) (e : End) → ((i : ℕ) → slice_get p.joints (x + i) ≡ slice_get js i)
    → n ≡ joint_start lay p x → Tells lay p (start_by_joints lay p x n js e) (seat_among x js e)
joints_tell lay p x n [] e same at = tt
joints_tell lay p x n (j ∷ js) e same at =
    let here : x + 0 ≡ x = omega arith in
    let there : slice_get p.joints x ≡ Some j = ap (slice_get p.joints) (sym here) ∙ same 0 in
    let size = total_suc (joint_size lay p) 0 x p.joints j there in
    let none : 0 + x ≡ x = omega arith in
    let same_size : joint_size lay p (0 + x) j ≡ joint_size lay p x j = ap (λ (y : ℕ). joint_size lay p y j) none in
    let next : n + joint_size lay p x j ≡ joint_start lay p (suc x) = omega (arith, at, size, same_size) in
    by_tests (same_end e j.asking) (same_end e j.serving) _ _ there
    (joints_tell lay p (suc x) (n + joint_size lay p x j) js e
    (λ i. ap (slice_get p.joints) (let shift : suc x + i ≡ x + suc i = omega arith in shift) ∙ same (suc i)) next)
  where
    first : Direction → ℕ
    first Answer = n + way_size lay p x j Request
    first Request = n

    begins : slice_get p.joints x ≡ Some j → (way : Direction) → first way ≡ way_start lay p x (slice_get p.joints x) way
    begins there Answer = ap (λ (m : ℕ). m + way_size lay p x j Request) at ∙ ap (λ (o : Option Joint). way_start lay p x o Answer) (sym there)
    begins there Request = at ∙ ap (λ (o : Option Joint). way_start lay p x o Request) (sym there)

    by_tests : (a b : Bool) (rest : Option Origin) (seat : Option Seat) → slice_get p.joints x ≡ Some j → Tells lay p rest seat
        → Tells lay p
        (or_else (or_else (some_if a (by_way (lay.keep x Answer) (n + way_size lay p x j Request) j.serving)) (some_if b (by_way (lay.keep x Request) n j.asking))) rest)
        (if a then Some (record { joint = x; way = Answer; other = j.serving }) else (if b then Some (record { joint = x; way = Request; other = j.asking }) else seat))
    by_tests true b rest seat there tells =
        λ i. by_way (lay.keep x Answer) (begins there Answer i) j.serving
    by_tests false true rest seat there tells = λ i. by_way (lay.keep x Request) (begins there Request i) j.asking
    by_tests false false rest seat there tells = tells

-- an end that is held is seen as it was
pub held_back : (e : End) → end_of (held_end e) ≡ e
held_back (PartEnd i h) = refl
held_back (ImportEnd i h) = refl
held_back (ResultEnd h) = refl

-- the nets by an origin

nets_by_way : (leaving : End → Nets) (rest w : ℕ) (kept : Bool) (n : ℕ) (other : End)
    → nets_by leaving rest w (Some (by_way kept n other)) ≡ (if kept then nets_from w n else leaving other)
nets_by_way leaving rest w true n other = refl
nets_by_way leaving rest w false n other = ap leaving (held_back other)

nets_by_ends : (p : Plan) (leaving : End → Nets) (w n last : ℕ) (ds : List End) (e : End) → n + total (loose_size p) 0 ds ≡ last
    → nets_by leaving last w (start_by_ends p n ds e) ≡ nets_from w (start_among p n ds e)
nets_by_ends p leaving w n last [] e is = let same : last ≡ n = omega (arith, is) in ap (nets_from w) same
nets_by_ends p leaving w n last (d ∷ ds) e is =
    by_test (same_end e d) _ (sym (same_turned d e)) (nets_by_ends p leaving w (n + loose_size p 0 d) last ds e (after is))
  where
    shifted : (k : ℕ) (es : List End) → total (loose_size p) (suc k) es ≡ total (loose_size p) k es
    shifted k [] = refl
    shifted k (f ∷ fs) = ap (λ (m : ℕ). loose_size p 0 f + m) (shifted (suc k) fs)

    after : n + (loose_size p 0 d + total (loose_size p) 1 ds) ≡ last → n + loose_size p 0 d + total (loose_size p) 0 ds ≡ last
    after is = let same = shifted 0 ds in omega (arith, is, same)

    by_test : (a b : Bool) → a ≡ b
        → nets_by leaving last w (start_by_ends p (n + loose_size p 0 d) ds e) ≡ nets_from w (start_among p (n + loose_size p 0 d) ds e)
        → nets_by leaving last w (or_else (some_if a (Cells n)) (start_by_ends p (n + loose_size p 0 d) ds e))
        ≡ nets_from w (if b then n else start_among p (n + loose_size p 0 d) ds e)
    by_test true b same rest = rw (sym same) refl
    by_test false b same rest = rw (sym same) rest

nets_told : (lay : Laying) (p : Plan) (e : End) (s : Option Origin) (seat : Option Seat) → Tells lay p s seat
    → nets_by (leaves lay p) (parts_start lay p) (bits_taken (contact_at p e)) (or_else s (start_by_ends p (loose_ends_start lay p) (loose_ends p) e))
    ≡ arrives_by lay p e seat
nets_told lay p e None None tells =
    nets_by_ends p (leaves lay p) (bits_taken (contact_at p e)) (loose_ends_start lay p) (parts_start lay p) (loose_ends p) e refl
nets_told lay p e None (Some seat) tells = absurd tells
nets_told lay p e (Some a) None tells = absurd tells
nets_told lay p e (Some a) (Some s) tells =
    let w : ℕ = bits_taken (contact_at p e) in
    ap (λ (b : Origin). nets_by (leaves lay p) (parts_start lay p) w (Some b)) tells
    ∙ nets_by_way (leaves lay p) (parts_start lay p) w (lay.keep s.joint s.way) (way_start lay p s.joint (slice_get p.joints s.joint) s.way) s.other

nets_seated : (lay : Laying) (p : Plan) (e : End)
    → nets_by (leaves lay p) (parts_start lay p) (bits_taken (contact_at p e)) (start_at lay p e) ≡ arrives lay p e
nets_seated lay p e =
    nets_told lay p e (joined_start lay p e) (seat_of p e)
    (joints_tell lay p 0 (joints_start p) p.joints e (λ i. ap (slice_get p.joints) (let none : 0 + i ≡ i = omega arith in none))
    (let none : joints_start p ≡ joints_start p + 0 = omega arith in none))

-- an entry of the table tells the nets of what comes in
pub arrives_told : (lay : Laying) (p : Plan) (e : End) (c : Contact) → contact_at p e ≡ Some c
    → nets_of (leaves lay p) (parts_start lay p) (record { contact = held_contact c; origin = start_at lay p e }) ≡ arrives lay p e
arrives_told lay p e c there =
    ap (λ (o : Option Contact). nets_by (leaves lay p) (parts_start lay p) (bits_taken o) (start_at lay p e)) (sym there) ∙ nets_seated lay p e

-- Where cells begin, they begin no later than at net r; where another end is named, it is there.
abbrev pub IsFound : Plan → ℕ → Option Origin → Type 0
IsFound p r None = Unit {0}
IsFound p r (Some (Cells n)) = n ≤ r
IsFound p r (Some (Other e)) = IsSome (contact_at p (end_of e))

found_way : (p : Plan) (r : ℕ) (kept : Bool) (n : ℕ) (other : End) → n ≤ r → IsSome (contact_at p other) → IsFound p r (Some (by_way kept n other))
found_way p r true n other low there = low
found_way p r false n other low there = subst (λ (e : End). IsSome (contact_at p e)) (sym (held_back other)) there

joints_found : (lay : Laying) (p : Plan) (k n r : ℕ) (js : List Joint) (e : End) → ((x : ℕ) (j : Joint) → slice_get js x ≡ Some j → Fits p j)
    → n + total (joint_size lay p) k js ≤ r → IsFound p r (start_by_joints lay p k n js e)
joints_found lay p k n r [] e fits low = tt
joints_found lay p k n r (j ∷ js) e fits low =
    by_tests (same_end e j.asking) (same_end e j.serving) _
    (joints_found lay p (suc k) (n + joint_size lay p k j) r js e (λ x i there. fits (suc x) i there) (omega (arith, low)))
  where
    by_tests : (a b : Bool) (rest : Option Origin) → IsFound p r rest
        → IsFound p r
        (or_else (or_else (some_if a (by_way (lay.keep k Answer) (n + way_size lay p k j Request) j.serving)) (some_if b (by_way (lay.keep k Request) n j.asking))) rest)
    by_tests true b rest is =
        found_way p r (lay.keep k Answer) (n + way_size lay p k j Request) j.serving (omega (arith, low)) (serving_there p j (fits 0 j refl))
    by_tests false true rest is = found_way p r (lay.keep k Request) n j.asking (omega (arith, low)) (asking_there p j (fits 0 j refl))
    by_tests false false rest is = is

ends_found : (p : Plan) (k n r : ℕ) (ds : List End) (e : End) → n + total (loose_size p) k ds ≤ r → IsFound p r (start_by_ends p n ds e)
ends_found p k n r [] e low = tt
ends_found p k n r (d ∷ ds) e low = by_test (same_end e d) _ (ends_found p (suc k) (n + loose_size p 0 d) r ds e (omega (arith, low)))
  where
    by_test : (a : Bool) (rest : Option Origin) → IsFound p r rest → IsFound p r (or_else (some_if a (Cells n)) rest)
    by_test true rest is = omega (arith, low)
    by_test false rest is = is

either_found : (p : Plan) (r : ℕ) (a b : Option Origin) → IsFound p r a → IsFound p r b → IsFound p r (or_else a b)
either_found p r None b first second = second
either_found p r (Some a) b first second = first

-- so it is with what comes in at each end
pub origin_found : (lay : Laying) (p : Plan) (e : End) → IsRight p → IsFound p (parts_start lay p) (start_at lay p e)
origin_found lay p e right =
    either_found p (parts_start lay p) (joined_start lay p e) _
    (joints_found lay p 0 (joints_start p) (parts_start lay p) p.joints e (λ x j there. joint_fits p [] p.joints x j right there) (omega arith))
    (ends_found p 0 (loose_ends_start lay p) (parts_start lay p) (loose_ends p) e (omega arith))

-- an entry that is there is that of a handshake
pub entry_told : (s : Option Origin) (o : Option Contact) (a : Arrival) → Some a ≡ arrival_if s o
    → (c : Contact) × (o ≡ Some c) × (a ≡ record { contact = held_contact c; origin = s })
entry_told s None a is = absurd (cc is)
entry_told s (Some c) a is = (c, refl, cc is)

-- the handshake of an entry is the one at its end
pub entry_holds : (s : Option Origin) (o : Option Contact) (a : Arrival) (d : Contact) → Some a ≡ arrival_if s o → o ≡ Some d → a.contact ≡ held_contact d
entry_holds s o a d is there =
    let told = entry_told s o a is in
    let both : Some told.0 ≡ Some d = sym told.1 ∙ there in
    let same : told.0 ≡ d = cc both in
    ap (λ (b : Arrival). b.contact) told.2 ∙ ap held_contact same

-- the parts begin within the cells
pub parts_within : (lay : Laying) (p : Plan) → parts_start lay p ≤ laid_size lay p
parts_within lay p = omega arith
