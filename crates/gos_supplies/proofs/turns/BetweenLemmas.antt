-- Two lists of open handshakes of one type, of which one follows the other: what lies between them keeps turns.
--
-- Where the holder serves, one follows the other, and where it asks the other follows the one. So it is with a name: its import
-- follows its result in some handshakes, and its result the import in the others.
use Rattle.std.specs.Prelude.{ℕ, zero, suc, ◌+◌, ◌<◌, Bool, true, false, ◌&&◌, List, Some, slice_get}
use Rattle.std.proofs.Common.{◌≡◌, [], ◌∷◌, ◌⊎◌, inl, inr, refl, sym, ◌∙◌, ap, arith}
use Rattle.gos_types.specs.declared.shakes.Role.TheVariants.{Serve, Ask}
use Rattle.gos_types.specs.Types.{Type', Com, Exp, Var, Pair, Fun}
use Rattle.gos_types.specs.Handshakes.{turned}
use Rattle.gos_types.proofs.ListLemmas.{found_in_front}
use Rattle.gos_plan.specs.Kinds.{Contact, contacts_of, turned_contact, other_side}
use Rattle.gos_plan.proofs.SideLemmas.{pairs_join, functions_join}
use Rattle.gos_plan.proofs.AskingLemmas.{behind}
use Rattle.gos_realises.specs.realises.Regular.{count, some_open, beyond, KeepsTurnsOf}
use Rattle.gos_realises.proofs.realises.GroundTurnLemmas.{some_there, there_some, count_fun}
use Rattle.gos_realises.proofs.realises.CountLemmas.{count_pair}
use Rattle.gos_supplies.proofs.turns.TypeLemmas.{sides}
use Rattle.gos_supplies.proofs.turns.TurnedLemmas.{fun_busy}
use Rattle.gos_supplies.proofs.turns.SideLemmas.{pair_busy}

-- where something is open a handshake is by which the holder serves
abbrev Served : Type' → (ℕ → Bool) → Type 0
Served t f = (g : ℕ) × (c : Contact) × (g < count t) × (slice_get (contacts_of t) g ≡ Some c) × (c.role ≡ Serve) × (f g ≡ true)

pub pair_first : (a b : Type') (h : ℕ) (c : Contact) → slice_get (contacts_of a) h ≡ Some c → slice_get (contacts_of (Pair a b)) h ≡ Some c
pair_first a b h c there = ap (λ (cs : List Contact). slice_get cs h) (pairs_join a b).joined ∙ found_in_front (contacts_of a) (contacts_of b) h c there

pub pair_second : (a b : Type') (h : ℕ) (c : Contact) → slice_get (contacts_of b) h ≡ Some c → slice_get (contacts_of (Pair a b)) (count a + h) ≡ Some c
pair_second a b h c there =
    ap (λ (cs : List Contact). slice_get cs (count a + h)) (pairs_join a b).joined ∙ (behind (contacts_of a) (contacts_of b) h (count a + h) refl ∙ there)

side_at : (cs : List Contact) (h : ℕ) (c : Contact) → slice_get cs h ≡ Some c → slice_get (other_side cs) h ≡ Some (turned_contact c)
side_at [] h c there = absurd (cc there)
side_at (d ∷ cs) zero c there = let same : d ≡ c = cc there in ap (λ (x : Contact). Some (turned_contact x)) same
side_at (d ∷ cs) (suc h) c there = side_at cs h c there

pub fun_first : (a b : Type') (h : ℕ) (c : Contact) → slice_get (contacts_of a) h ≡ Some c → slice_get (contacts_of (Fun a b)) h ≡ Some (turned_contact c)
fun_first a b h c there =
    ap (λ (cs : List Contact). slice_get cs h) (functions_join a b).joined ∙ found_in_front (other_side (contacts_of a)) (contacts_of b) h (turned_contact c) (side_at (contacts_of a) h c there)

fun_second : (a b : Type') (h : ℕ) (c : Contact) → slice_get (contacts_of b) h ≡ Some c → slice_get (contacts_of (Fun a b)) (count a + h) ≡ Some c
fun_second a b h c there =
    let long = sides a b in
    ap (λ (cs : List Contact). slice_get cs (count a + h)) (functions_join a b).joined
    ∙ (behind (other_side (contacts_of a)) (contacts_of b) h (count a + h) (omega (arith, long)) ∙ there)

pub served : (t : Type') (f : ℕ → Bool) → KeepsTurnsOf t f → some_open (count t) f ≡ true → Served t f
served Com f keeps busy = let (k, low, up) = some_there 1 f busy in (0, _, omega arith, refl, refl, let e : k ≡ 0 = omega (arith, low) in ap f (sym e) ∙ up)
served (Exp w) f keeps busy = let (k, low, up) = some_there 1 f busy in (0, _, omega arith, refl, refl, let e : k ≡ 0 = omega (arith, low) in ap f (sym e) ∙ up)
served (Var w) f keeps busy = by_number (some_there 2 f busy)
  where
    by_number : (k : ℕ) × (k < 2) × (f k ≡ true) → Served (Var w) f
    by_number (zero, low, up) = (0, _, omega arith, refl, refl, up)
    by_number (suc zero, low, up) = (1, _, omega arith, refl, refl, up)
    by_number (suc (suc k), low, up) = absurd (omega (arith, low))
served (Pair a b) f (first, second, shut) busy = by_side (pair_busy a b f busy) (served a f first) (served b (beyond (count a) f) second)
  where
    by_side : (some_open (count a) f ≡ true) ⊎ (some_open (count b) (beyond (count a) f) ≡ true) → (some_open (count a) f ≡ true → Served a f)
        → (some_open (count b) (beyond (count a) f) ≡ true → Served b (beyond (count a) f)) → Served (Pair a b) f
    by_side (inl up) of_a of_b =
        let (g, c, low, there, role, open_g) = of_a up in
        let sum = count_pair a b in (g, c, omega (arith, low, sum), pair_first a b g c there, role, open_g)
    by_side (inr up) of_a of_b =
        let (g, c, low, there, role, open_g) = of_b up in
        let sum = count_pair a b in (count a + g, c, omega (arith, low, sum), pair_second a b g c there, role, open_g)
served (Fun a b) f keeps busy =
    let (g, c, low, there, role, open_g) = served b (beyond (count a) f) keeps.1 (fun_busy a b f keeps busy) in
    let sum = count_fun a b in (count a + g, c, omega (arith, low, sum), fun_second a b g c there, role, open_g)

-- g follows f where the holder serves, and f follows g where it asks
abbrev pub Leads : Type' → (ℕ → Bool) → (ℕ → Bool) → Type 0
Leads t f g =
    (h : ℕ) (c : Contact) → slice_get (contacts_of t) h ≡ Some c → (c.role ≡ Serve → f h ≡ true → g h ≡ true) × (c.role ≡ Ask → g h ≡ true → f h ≡ true)

-- each handshake of x is as in f or as in g
abbrev pub Between : ℕ → (ℕ → Bool) → (ℕ → Bool) → (ℕ → Bool) → Type 0
Between n f g x = (h : ℕ) → h < n → (x h ≡ f h) ⊎ (x h ≡ g h)

-- what is busy between is busy in g, and where f is busy it is between
pub busy_to : (t : Type') (f g x : ℕ → Bool) → KeepsTurnsOf t f → Leads t f g → Between (count t) f g x → some_open (count t) x ≡ true → some_open (count t) g ≡ true
busy_to t f g x keeps leads between busy = of_open (some_there (count t) x busy)
  where
    of_open : (k : ℕ) × (k < count t) × (x k ≡ true) → some_open (count t) g ≡ true
    of_open (k, low, up) = by_case (between k low)
      where
        by_case : (x k ≡ f k) ⊎ (x k ≡ g k) → some_open (count t) g ≡ true
        by_case (inl is) =
            let (h, c, small, there, role, open_h) = served t f keeps (there_some (count t) f k low (sym is ∙ up)) in
            there_some (count t) g h small ((leads h c there).0 role open_h)
        by_case (inr is) = there_some (count t) g k low (sym is ∙ up)

pub busy_from : (t : Type') (f g x : ℕ → Bool) → KeepsTurnsOf t f → Leads t f g → Between (count t) f g x → some_open (count t) f ≡ true → some_open (count t) x ≡ true
busy_from t f g x keeps leads between busy =
    let (h, c, small, there, role, open_h) = served t f keeps busy in
    there_some (count t) x h small (by_case h open_h ((leads h c there).0 role open_h) (between h small))
  where
    by_case : (h : ℕ) → f h ≡ true → g h ≡ true → (x h ≡ f h) ⊎ (x h ≡ g h) → x h ≡ true
    by_case h open_f open_g (inl is) = is ∙ open_f
    by_case h open_f open_g (inr is) = is ∙ open_g

swapped : {A B : Type 0} → A ⊎ B → B ⊎ A
swapped (inl a) = inr a
swapped (inr b) = inl b

pub both_up : (b c : Bool) → (b ≡ true → c ≡ true → ⊥) → (b && c) ≡ false
both_up true true clash = absurd (clash refl refl)
both_up true false clash = refl
both_up false c clash = refl

pub not_both : (b c : Bool) → (b && c) ≡ false → b ≡ true → c ≡ true → ⊥
not_both true true shut up also = cc shut
not_both true false shut up also = cc also
not_both false c shut up also = cc up

-- what lies between keeps turns
pub between_keeps : (t : Type') (f g x : ℕ → Bool) → KeepsTurnsOf t f → KeepsTurnsOf t g → Leads t f g → Between (count t) f g x → KeepsTurnsOf t x
between_keeps Com f g x of_f of_g leads between = tt
between_keeps (Exp w) f g x of_f of_g leads between = tt
between_keeps (Var w) f g x of_f of_g leads between =
    both_up (x 0) (x 1) (λ up also. not_both (g 0) (g 1) of_g (follows 0 _ refl refl (omega arith) up) (follows 1 _ refl refl (omega arith) also))
  where
    follows : (h : ℕ) (c : Contact) → slice_get (contacts_of (Var w)) h ≡ Some c → c.role ≡ Serve → h < 2 → x h ≡ true → g h ≡ true
    follows h c there role low up = by_case (between h low)
      where
        by_case : (x h ≡ f h) ⊎ (x h ≡ g h) → g h ≡ true
        by_case (inl is) = (leads h c there).0 role (sym is ∙ up)
        by_case (inr is) = sym is ∙ up
between_keeps (Pair a b) f g x (f_a, f_b, f_shut) (g_a, g_b, g_shut) leads between =
    let sum = count_pair a b in
    let leads_a : Leads a f g = λ h c there. leads h c (pair_first a b h c there) in
    let leads_b : Leads b (beyond (count a) f) (beyond (count a) g) = λ h c there. leads (count a + h) c (pair_second a b h c there) in
    let between_a : Between (count a) f g x = λ h low. between h (omega (arith, low, sum)) in
    let between_b : Between (count b) (beyond (count a) f) (beyond (count a) g) (beyond (count a) x) = λ h low. between (count a + h) (omega (arith, low, sum)) in (
      between_keeps a f g x f_a g_a leads_a between_a,
      between_keeps b (beyond (count a) f) (beyond (count a) g) (beyond (count a) x) f_b g_b leads_b between_b,
      both_up (some_open (count a) x) (some_open (count b) (beyond (count a) x))
          (λ up also. not_both (some_open (count a) g) (some_open (count b) (beyond (count a) g)) g_shut (busy_to a f g x f_a leads_a between_a up)
          (busy_to b (beyond (count a) f) (beyond (count a) g) (beyond (count a) x) f_b leads_b between_b also)),
    )
between_keeps (Fun a b) f g x (f_a, f_b, f_leads) (g_a, g_b, g_leads) leads between =
    let sum = count_fun a b in
    let leads_a : Leads a g f = λ h c there.
    (let both = leads h (turned_contact c) (fun_first a b h c there) in ((λ role up. both.1 (ap turned role) up), (λ role up. both.0 (ap turned role) up))) in
    let leads_b : Leads b (beyond (count a) f) (beyond (count a) g) = λ h c there. leads (count a + h) c (fun_second a b h c there) in
    let between_a : Between (count a) g f x = λ h low. swapped (between h (omega (arith, low, sum))) in
    let between_b : Between (count b) (beyond (count a) f) (beyond (count a) g) (beyond (count a) x) = λ h low. between (count a + h) (omega (arith, low, sum)) in (
      between_keeps a g f x g_a f_a leads_a between_a,
      between_keeps b (beyond (count a) f) (beyond (count a) g) (beyond (count a) x) f_b g_b leads_b between_b,
      λ busy. busy_from b (beyond (count a) f) (beyond (count a) g) (beyond (count a) x) f_b leads_b between_b (f_leads (busy_to a g f x g_a leads_a between_a busy)),
    )
