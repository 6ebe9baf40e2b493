-- The nets of a port fit its places, since its cells stand one behind the other.
--
-- Read first: PortRules of gos_netcheck; Laid.
use Rattle.std.proofs.Common.{◌≡◌, ◌+◌, ◌≤◌, ◌<◌, ℕ, zero, suc, Bool, true, false, List, [], ◌∷◌, ◌++◌, map, length, slice_get, take, Some, Contains, if◌then◌else◌, inl, inr, refl, sym, ap, ap₂, subst, ◌∙◌, append_assoc, append-nil, length-append, flat_map, arith}
use Rattle.std.proofs.lemmas.Option.{none-some, same_Some}
use Rattle.std.proofs.lemmas.List.{length-map}
use Rattle.std.proofs.lemmas.List.Elements.{Contains-append_left, Contains-append_right, Contains-append_cases, Contains-push_cases}
use Rattle.gos_types.specs.Types.{Type', Com, Exp, Var, Pair, Fun, IsGround}
use Rattle.gos_netlist.specs.Nets.{Function, Input, Reg, Cell, Side, Give, Take}
use Rattle.gos_netlist.specs.Events.{is_input}
use Rattle.gos_types.specs.Events.{Direction, Request, Answer}
use Rattle.gos_netcheck.specs.PortRules.{place, places, IsEnd, Fits, FitsAt, AllFit, inputs_among, AreNew}
use Rattle.gos_plan.specs.Kinds.{Contact, contacts_of}
use Rattle.gos_types.specs.Widths.{HasWidths}
use Rattle.gos_expand.specs.Blocks.{Nets, token_size, token_cells, inputs, registers, blocks, total, nets_on}
use Rattle.gos_expand.specs.Starts.{shake_size}
use Rattle.gos_expand.specs.Laid.{side_cells}
use Rattle.gos_expand.proofs.StandLemmas.{StandAt, each_left, each_right}
use Rattle.gos_expand.proofs.GroupLemmas.{token_length, shake_length}

-- a net of a port: its direction, and its bits
pub record Spot : Type 0 where
  pub way : Direction
  pub bits : ℕ

abbrev pub spot : Direction → ℕ → Spot
spot way w = record { way = way; bits = w }

-- the nets from net n on fit these places
abbrev pub FitOn : List Cell → Side → ℕ → List Spot → Type 0
FitOn all side n [] = Unit {0}
FitOn all side n (p ∷ ps) = Fits all (place side p.way p.bits) n × FitOn all side (n + 1) ps

-- the inputs among nets from net n on
abbrev pub inputs_from : Side → ℕ → List Spot → List ℕ
inputs_from side n ps = inputs_among (map (λ p. place side p.way p.bits) ps) (nets_on n (length ps))

fit_moved : (all : List Cell) (side : Side) (m n : ℕ) (ps : List Spot) → m ≡ n → FitOn all side m ps → FitOn all side n ps
fit_moved all side m n ps e h = subst (λ (k : ℕ). FitOn all side k ps) e h

fit_both : (all : List Cell) (side : Side) (n : ℕ) (ps qs : List Spot) → FitOn all side n ps → FitOn all side (n + length ps) qs
    → FitOn all side n (ps ++ qs)
fit_both all side n [] qs left right = fit_moved all side (n + 0) n qs (omega arith) right
fit_both all side n (p ∷ ps) qs left right =
    let e : n + length (p ∷ ps) ≡ n + 1 + length ps = omega arith in
    (left.0, fit_both all side (n + 1) ps qs left.1 (fit_moved all side (n + length (p ∷ ps)) (n + 1 + length ps) qs e right))

-- the places of a token, of a handshake, and of several
abbrev pub token_places : Direction → ℕ → List Spot
token_places way zero = spot way 1 ∷ []
token_places way (suc w) = spot way 1 ∷ spot way (suc w) ∷ []

abbrev pub shake_places : Contact → List Spot
shake_places c = token_places Request c.ask_bits ++ token_places Answer c.answer_bits

places_length : (way : Direction) (w : ℕ) → length (token_places way w) ≡ token_size w
places_length way zero = refl
places_length way (suc w) = refl

shake_places_length : (c : Contact) → length (shake_places c) ≡ token_size c.ask_bits + token_size c.answer_bits
shake_places_length c =
    length-append (token_places Request c.ask_bits) (token_places Answer c.answer_bits)
    ∙ ap₂ (λ (a b : ℕ). a + b) (places_length Request c.ask_bits) (places_length Answer c.answer_bits)

pub all_places_length : (m : ℕ) (cs : List Contact) → length (flat_map shake_places cs) ≡ total shake_size m cs
all_places_length m [] = refl
all_places_length m (c ∷ cs) =
    length-append (shake_places c) (flat_map shake_places cs)
    ∙ ap₂ (λ (a b : ℕ). a + b) (shake_places_length c) (all_places_length (suc m) cs)

-- a ground type has the places of its handshakes
pub places_are : (side : Side) (t : Type') → IsGround t → HasWidths t
    → map (λ p. place side p.way p.bits) (flat_map shake_places (contacts_of t)) ≡ places side t
places_are side Com g h = refl
places_are side (Exp zero) g h = absurd (let some = h.0 in omega (arith, some))
places_are side (Exp (suc w)) g h = refl
places_are side (Var zero) g h = absurd (let some = h.0 in omega (arith, some))
places_are side (Var (suc w)) g h = refl
places_are side (Pair a b) g h = absurd g
places_are side (Fun a b) g h = absurd g

-- cells that stand fit their places
token_fits : (all : List Cell) (side : Side) (way : Direction) (w n : ℕ) (f g : Function) → IsEnd (is_input side way) f
    → IsEnd (is_input side way) g
    → StandAt all n (token_cells w f g) → FitOn all side n (token_places way w)
token_fits all side way zero n f g is_f is_g stand =
    let e : n + 0 ≡ n = omega arith in
    ((_, subst (λ (m : ℕ). slice_get all m ≡ Some (record { width = 1; gate = f })) e (stand 0 _ refl), refl, is_f), tt)
token_fits all side way (suc w) n f g is_f is_g stand =
    let e : n + 0 ≡ n = omega arith in (
      (_, subst (λ (m : ℕ). slice_get all m ≡ Some (record { width = 1; gate = f })) e (stand 0 _ refl), refl, is_f),
      ((record { width = suc w; gate = g }, stand 1 _ refl, refl, is_g), tt),
    )

shake_fits : (all : List Cell) (side : Side) (c : Contact) (nets : Nets) (n : ℕ) → StandAt all n (side_cells side c nets)
    → FitOn all side n (shake_places c)
shake_fits all Give c nets n stand =
    let P : ℕ → Cell → Type 0 = λ m d. slice_get all m ≡ Some d in
    let asks : List Cell = inputs c.ask_bits in
    let answers : List Cell = registers c.answer_bits nets in
    let first = token_fits all Give Request c.ask_bits n Input Input refl refl (each_left P n asks answers stand) in
    let second = token_fits all Give Answer c.answer_bits (n + length asks) (Reg nets.pulse) (Reg nets.number) (_, refl) (_, refl) (each_right P n asks answers stand) in
    let e : length asks ≡ length (token_places Request c.ask_bits) =
    token_length c.ask_bits Input Input ∙ sym (places_length Request c.ask_bits) in
    fit_both all Give n (token_places Request c.ask_bits) (token_places Answer c.answer_bits) first
    (fit_moved all Give (n + length asks) (n + length (token_places Request c.ask_bits)) (token_places Answer c.answer_bits) (ap (λ (m : ℕ). n + m) e) second)
shake_fits all Take c nets n stand =
    let P : ℕ → Cell → Type 0 = λ m d. slice_get all m ≡ Some d in
    let asks : List Cell = registers c.ask_bits nets in
    let answers : List Cell = inputs c.answer_bits in
    let first = token_fits all Take Request c.ask_bits n (Reg nets.pulse) (Reg nets.number) (_, refl) (_, refl) (each_left P n asks answers stand) in
    let second = token_fits all Take Answer c.answer_bits (n + length asks) Input Input refl refl (each_right P n asks answers stand) in
    let e : length asks ≡ length (token_places Request c.ask_bits) =
    token_length c.ask_bits _ _ ∙ sym (places_length Request c.ask_bits) in
    fit_both all Take n (token_places Request c.ask_bits) (token_places Answer c.answer_bits) first
    (fit_moved all Take (n + length asks) (n + length (token_places Request c.ask_bits)) (token_places Answer c.answer_bits) (ap (λ (m : ℕ). n + m) e) second)

pub shakes_fit : (all : List Cell) (side : Side) (arriving : ℕ → Nets) (n m : ℕ) (cs : List Contact)
    → StandAt all n (blocks (λ h c. side_cells side c (arriving h)) m cs) → FitOn all side n (flat_map shake_places cs)
shakes_fit all side arriving n m [] stand = tt
shakes_fit all side arriving n m (c ∷ cs) stand =
    let P : ℕ → Cell → Type 0 = λ k d. slice_get all k ≡ Some d in
    let here : List Cell = side_cells side c (arriving m) in
    let rest : List Cell = blocks (λ h d. side_cells side d (arriving h)) (suc m) cs in
    let e : length here ≡ length (shake_places c) = shake_length side c (arriving m) ∙ sym (shake_places_length c) in
    fit_both all side n (shake_places c) (flat_map shake_places cs) (shake_fits all side c (arriving m) n (each_left P n here rest stand))
    (fit_moved all side (n + length here) (n + length (shake_places c)) (flat_map shake_places cs) (ap (λ (k : ℕ). n + k) e)
    (shakes_fit all side arriving (n + length here) (suc m) cs (each_right P n here rest stand)))

-- what follows for the nets of a port

nets_length : (n k : ℕ) → length (nets_on n k) ≡ k
nets_length n zero = refl
nets_length n (suc k) = ap suc (nets_length (n + 1) k)

fit_at : (all : List Cell) (side : Side) (n : ℕ) (ps : List Spot) → FitOn all side n ps → (k x : ℕ)
    → slice_get (nets_on n (length ps)) k ≡ Some x
    → FitsAt all (slice_get (map (λ p. place side p.way p.bits) ps) k) x
fit_at all side n [] fit k x is = absurd (none-some x is)
fit_at all side n (p ∷ ps) fit zero x is = subst (λ (m : ℕ). Fits all (place side p.way p.bits) m) (same_Some n x is) fit.0
fit_at all side n (p ∷ ps) fit (suc k) x is = fit_at all side (n + 1) ps fit.1 k x is

pub all_fit : (all : List Cell) (side : Side) (n : ℕ) (ps : List Spot) → FitOn all side n ps
    → AllFit all (map (λ p. place side p.way p.bits) ps) (nets_on n (length ps))
all_fit all side n ps fit =
    (nets_length n (length ps) ∙ sym (length-map ps (λ p. place side p.way p.bits)), fit_at all side n ps fit)

-- numbers that rise, from m on; and numbers below m
abbrev pub Rise : ℕ → List ℕ → Type 0
Rise m [] = Unit {0}
Rise m (n ∷ ns) = (m ≤ n) × Rise (n + 1) ns

abbrev pub AreBelow : ℕ → List ℕ → Type 0
AreBelow m ns = (a : ℕ) → Contains ns a → a < m

rise_later : (l m : ℕ) (ns : List ℕ) → l ≤ m → Rise m ns → Rise l ns
rise_later l m [] low rise = tt
rise_later l m (n ∷ ns) low rise = let first = rise.0 in (omega (arith, low, first), rise.1)

pub inputs_rise : (side : Side) (n : ℕ) (ps : List Spot) → Rise n (inputs_from side n ps)
inputs_rise side n [] = tt
inputs_rise side n (p ∷ ps) = by_input (is_input side p.way) (inputs_rise side (n + 1) ps)
  where
    by_input : (b : Bool) → Rise (n + 1) (inputs_from side (n + 1) ps)
        → Rise n ((if b then n ∷ [] else []) ++ inputs_from side (n + 1) ps)
    by_input true rest = (omega arith, rest)
    by_input false rest = rise_later n (n + 1) (inputs_from side (n + 1) ps) (omega arith) rest

pub none_in : (a : ℕ) → Contains [] a → ⊥
none_in a (k, l, is) = omega (arith, l)

in_one : (a n : ℕ) → Contains (n ∷ []) a → n ≡ a
in_one a n h = elim (Contains-push_cases [] n a h) [ inl h ↦ absurd (none_in a h) | inr e ↦ e ]

pub inputs_below : (side : Side) (n : ℕ) (ps : List Spot) → AreBelow (n + length ps) (inputs_from side n ps)
inputs_below side n [] a h = absurd (none_in a h)
inputs_below side n (p ∷ ps) a h = by_input (is_input side p.way) h (inputs_below side (n + 1) ps a)
  where
    by_input : (b : Bool) → Contains ((if b then n ∷ [] else []) ++ inputs_from side (n + 1) ps) a
        → (Contains (inputs_from side (n + 1) ps) a → a < n + 1 + length ps) → a < n + suc (length ps)
    by_input true h further =
        elim (Contains-append_cases (n ∷ []) (inputs_from side (n + 1) ps) a h)
        [ inl one ↦ (let e = in_one a n one in omega (arith, e)) | inr more ↦ (let low = further more in omega (arith, low)) ]
    by_input false h further = let low = further h in omega (arith, low)

-- an Input cell among them is one of their inputs
pub inputs_listed : (all : List Cell) (side : Side) (n : ℕ) (ps : List Spot) → FitOn all side n ps → (k : ℕ) (c : Cell) → k < length ps
    → slice_get all (n + k) ≡ Some c → c.gate ≡ Input
    → Contains (inputs_from side n ps) (n + k)
inputs_listed all side n [] fit k c low at is = absurd (omega (arith, low))
inputs_listed all side n (p ∷ ps) (one, more) zero c low at is = by_input (is_input side p.way) one.3
  where
    e : n + 0 ≡ n
    e = omega arith

    same : one.0 ≡ c
    same = same_Some one.0 c (sym one.1 ∙ (ap (slice_get all) (sym e) ∙ at))

    by_input : (b : Bool) → IsEnd b one.0.gate → Contains ((if b then n ∷ [] else []) ++ inputs_from side (n + 1) ps) (n + 0)
    by_input true end =
        Contains-append_left (n ∷ []) (inputs_from side (n + 1) ps) (n + 0) (0, omega arith, sym e)
    by_input false end =
        absurd (let input = ap (λ (d : Cell). d.gate) same ∙ is in let register = end.1 in grind (arith, input, register))
inputs_listed all side n (p ∷ ps) (one, more) (suc k) c low at is =
    let e : n + suc k ≡ n + 1 + k = omega arith in
    let rest = inputs_listed all side (n + 1) ps more k c (omega (arith, low)) (ap (slice_get all) (sym e) ∙ at) is in
    subst (λ (m : ℕ). Contains (inputs_from side n (p ∷ ps)) m) (sym e)
    (Contains-append_right (if is_input side p.way then n ∷ [] else []) (inputs_from side (n + 1) ps) (n + 1 + k) rest)

-- numbers that rise are new among lower ones
pub new_above : (before : List ℕ) (m : ℕ) (ns : List ℕ) → AreBelow m before → Rise m ns → AreNew before ns
new_above before m [] low rise k x is there = absurd (none-some x is)
new_above before m (n ∷ ns) low rise zero x is there =
    let at_least = rise.0 in
    let e : n ≡ x = same_Some n x is in
    let lower = low x (subst (λ (xs : List ℕ). Contains xs x) (append-nil before) there) in omega (arith, e, lower, at_least)
new_above before m (n ∷ ns) low rise (suc k) x is there =
    new_above (before ++ n ∷ []) (n + 1) ns still rise.1 k x is (subst (λ (xs : List ℕ). Contains xs x) (sym (append_assoc before (n ∷ []) (take k ns))) there)
  where
    still : AreBelow (n + 1) (before ++ n ∷ [])
    still a h =
        let at_least = rise.0 in
        elim (Contains-push_cases before n a h)
        [ inl among ↦ (let lower = low a among in omega (arith, lower, at_least)) | inr e ↦ omega (arith, e) ]
