-- What lies between two sets of open handshakes that keep turns keeps turns.
--
-- What is open behind a Share lags: requests reach it late, and its own are late outside. So of the handshakes that are served those that are
-- open behind it are open outside, and of those that are asked the other way round. Where anything is open a handshake that
-- is served is (`positive`).
use Rattle.std.specs.Prelude.{◌≡◌, ℕ, zero, suc, ◌+◌, ◌-◌, ◌<◌, Bool, true, false, ◌&&◌, IsTrue, IsFalse, List, ◌⊎◌, length, Some, slice_get, nat_lt}
use Rattle.std.proofs.Common.{refl, sym, ◌∙◌, ap, subst, arith, inl, inr}
use Rattle.std.proofs.lemmas.Bool.Decides.{nat_tests}
use Rattle.std.proofs.lemmas.Option.{slice_get_within}
use Rattle.std.proofs.lemmas.List.{length-map}
use Rattle.gos_types.specs.declared.shakes.Role.{Role}
use Rattle.gos_types.specs.declared.shakes.Role.TheVariants.{Serve, Ask}
use Rattle.gos_types.specs.Types.{Type', Com, Exp, Var, Pair, Fun}
use Rattle.gos_types.specs.Handshakes.{turned}
use Rattle.gos_model.specs.Typing.{Imported}
use Rattle.gos_plan.specs.Kinds.{Contact, contacts_of, turned_contact, other_side}
use Rattle.gos_plan.specs.Plans.{End}
use Rattle.gos_plan.proofs.AskingLemmas.{behind}
use Rattle.gos_plan.proofs.SideLemmas.{pairs_join, functions_join}
use Rattle.gos_realises.specs.realises.Regular.{count, some_open, beyond, KeepsTurnsOf}
use Rattle.gos_realises.proofs.realises.GroundTurnLemmas.{first_open, some_there, there_some, count_fun}
use Rattle.gos_realises.proofs.realises.CountLemmas.{count_pair}
use Rattle.gos_joining.proofs.renumbered.TurnLemmas.{of_import, of_result, ImportKeeps, EachKeeps}
use Rattle.gos_supplies.proofs.turns.BetweenLemmas.{pair_first, fun_first}

-- what is open in f is open in g, where the handshake is served; where it is asked the other way round
abbrev pub RoleBelow : Role → Bool → Bool → Type 0
RoleBelow Serve x y = x ≡ true → y ≡ true
RoleBelow Ask x y = y ≡ true → x ≡ true

abbrev pub Below : Type' → (ℕ → Bool) → (ℕ → Bool) → Type 0
Below t f g = (j : ℕ) (k : Contact) → slice_get (contacts_of t) j ≡ Some k → RoleBelow k.role (f j) (g j)

-- each is as in f or as in g
abbrev pub Between : Type' → (ℕ → Bool) → (ℕ → Bool) → (ℕ → Bool) → Type 0
Between t f g h = (j : ℕ) → j < count t → (h j ≡ f j) ⊎ (h j ≡ g j)

-- a handshake that is served is open
abbrev pub ServedOpen : Type' → (ℕ → Bool) → Type 0
ServedOpen t f = (j : ℕ) × (k : Contact) × (slice_get (contacts_of t) j ≡ Some k) × (k.role ≡ Serve) × (f j ≡ true)

turned_below : (role : Role) (x y : Bool) → RoleBelow (turned role) x y → RoleBelow role y x
turned_below Serve x y h = h
turned_below Ask x y h = h

-- the handshakes of both sides
pub second_of_pair : (a b : Type') (j : ℕ) → slice_get (contacts_of (Pair a b)) (count a + j) ≡ slice_get (contacts_of b) j
second_of_pair a b j =
    ap (λ (cs : List Contact). slice_get cs (count a + j)) (pairs_join a b).joined ∙ behind (contacts_of a) (contacts_of b) j (count a + j) refl

pub second_of_fun : (a b : Type') (j : ℕ) → slice_get (contacts_of (Fun a b)) (count a + j) ≡ slice_get (contacts_of b) j
second_of_fun a b j =
    let size : length (other_side (contacts_of a)) ≡ count a = length-map (contacts_of a) turned_contact in
    ap (λ (cs : List Contact). slice_get cs (count a + j)) (functions_join a b).joined
    ∙ behind (other_side (contacts_of a)) (contacts_of b) j (count a + j) (omega (arith, size))

-- so of what is below
below_first : (a b : Type') (f g : ℕ → Bool) → Below (Pair a b) f g → Below a f g
below_first a b f g below j k at = below j k (pair_first a b j k at)

below_second : (a b : Type') (f g : ℕ → Bool) → Below (Pair a b) f g → Below b (beyond (count a) f) (beyond (count a) g)
below_second a b f g below j k at = below (count a + j) k (second_of_pair a b j ∙ at)

below_argument : (a b : Type') (f g : ℕ → Bool) → Below (Fun a b) f g → Below a g f
below_argument a b f g below j k at = turned_below k.role (f j) (g j) (below j (turned_contact k) (fun_first a b j k at))

below_outcome : (a b : Type') (f g : ℕ → Bool) → Below (Fun a b) f g → Below b (beyond (count a) f) (beyond (count a) g)
below_outcome a b f g below j k at = below (count a + j) k (second_of_fun a b j ∙ at)

-- served handshakes that are open
served_some : (t : Type') (f : ℕ → Bool) → ServedOpen t f → some_open (count t) f ≡ true
served_some t f (j, k, at, role, up) = there_some (count t) f j (slice_get_within (contacts_of t) j k at) up

one_served : (t : Type') (f : ℕ → Bool) (k : Contact) (j : ℕ) → slice_get (contacts_of t) j ≡ Some k → k.role ≡ Serve → f j ≡ true → ServedOpen t f
one_served t f k j at role up = (j, k, at, role, up)

-- of two sides together
side_open : (n m l : ℕ) (f : ℕ → Bool) → l ≡ n + m → some_open l f ≡ true → (some_open n f ≡ true) ⊎ (some_open m (beyond n f) ≡ true)
side_open n m l f sum h = let (j, low, up) = some_there l f h in by_test j low up (nat_lt j n) refl
  where
    by_test : (j : ℕ) → j < l → f j ≡ true → (b : Bool) → nat_lt j n ≡ b → (some_open n f ≡ true) ⊎ (some_open m (beyond n f) ≡ true)
    by_test j low up true t = inl (there_some n f j (grind (arith, nat_tests, t)) up)
    by_test j low up false t =
        let past : n + (j - n) ≡ j = grind (arith, nat_tests, t) in
        let small : j - n < m = omega (arith, low, sum, past) in inr (there_some m (beyond n f) (j - n) small (ap f past ∙ up))

served_outcome : (a b : Type') (f : ℕ → Bool) → ServedOpen b (beyond (count a) f) → ServedOpen (Fun a b) f
served_outcome a b f (j, k, at, role, up) = (count a + j, k, second_of_fun a b j ∙ at, role, up)

-- where turns are kept and anything is open, one that is served is
pub positive : (t : Type') (f : ℕ → Bool) → KeepsTurnsOf t f → some_open (count t) f ≡ true → ServedOpen t f
positive Com f keeps h = one_served Com f (record { role = Serve; ask_bits = 0; answer_bits = 0 }) 0 refl refl (first_open f h)
positive (Exp w) f keeps h = one_served (Exp w) f (record { role = Serve; ask_bits = 0; answer_bits = w }) 0 refl refl (first_open f h)
positive (Var w) f keeps h = let (j, low, up) = some_there 2 f h in of_number j low up
  where
    of_number : (j : ℕ) → j < 2 → f j ≡ true → ServedOpen (Var w) f
    of_number zero low up = one_served (Var w) f (record { role = Serve; ask_bits = 0; answer_bits = w }) 0 refl refl up
    of_number (suc zero) low up = one_served (Var w) f (record { role = Serve; ask_bits = w; answer_bits = 0 }) 1 refl refl up
    of_number (suc (suc j)) low up = absurd (omega (arith, low))
positive (Pair a b) f (one, other, apart) h =
    elim (side_open (count a) (count b) (count (Pair a b)) f (count_pair a b) h) [
      | inl up ↦ (let (j, k, at, role, is) = positive a f one up in (j, k, pair_first a b j k at, role, is))
      | inr up ↦ (let (j, k, at, role, is) = positive b (beyond (count a) f) other up in (count a + j, k, second_of_pair a b j ∙ at, role, is))
    ]
positive (Fun a b) f (one, other, leads) h =
    elim (side_open (count a) (count b) (count (Fun a b)) f (count_fun a b) h) [
      | inl up ↦ served_outcome a b f (positive b (beyond (count a) f) other (leads up))
      | inr up ↦ served_outcome a b f (positive b (beyond (count a) f) other up)
    ]

-- one that is served and open between is open in g, and one that is served and open in f is open between
in_upper : (t : Type') (f g h : ℕ → Bool) → Below t f g → Between t f g h → ServedOpen t h → ServedOpen t g
in_upper t f g h below between (j, k, at, role, up) = (j, k, at, role, by_side (between j (slice_get_within (contacts_of t) j k at)))
  where
    so : f j ≡ true → g j ≡ true
    so = subst (λ (x : Role). RoleBelow x (f j) (g j)) role (below j k at)

    by_side : (h j ≡ f j) ⊎ (h j ≡ g j) → g j ≡ true
    by_side (inl e) = so (sym e ∙ up)
    by_side (inr e) = sym e ∙ up

from_lower : (t : Type') (f g h : ℕ → Bool) → Below t f g → Between t f g h → ServedOpen t f → ServedOpen t h
from_lower t f g h below between (j, k, at, role, up) = (j, k, at, role, by_side (between j (slice_get_within (contacts_of t) j k at)))
  where
    so : g j ≡ true
    so = subst (λ (x : Role). RoleBelow x (f j) (g j)) role (below j k at) up

    by_side : (h j ≡ f j) ⊎ (h j ≡ g j) → h j ≡ true
    by_side (inl e) = e ∙ up
    by_side (inr e) = e ∙ so

other_between : (t : Type') (f g h : ℕ → Bool) → Between t f g h → Between t g f h
other_between t f g h between j low = elim (between j low) [
  | inl e ↦ inr e
  | inr e ↦ inl e
]

between_first : (a b : Type') (n : ℕ) (f g h : ℕ → Bool) → n ≡ count a + count b → ((j : ℕ) → j < n → (h j ≡ f j) ⊎ (h j ≡ g j)) → Between a f g h
between_first a b n f g h sum between j low = between j (omega (arith, low, sum))

between_second : (a b : Type') (n : ℕ) (f g h : ℕ → Bool) → n ≡ count a + count b → ((j : ℕ) → j < n → (h j ≡ f j) ⊎ (h j ≡ g j))
    → Between b (beyond (count a) f) (beyond (count a) g) (beyond (count a) h)
between_second a b n f g h sum between j low = between (count a + j) (omega (arith, low, sum))

not_both : (a b c d : Bool) → (c ≡ true → a ≡ true) → (d ≡ true → b ≡ true) → IsFalse (a && b) → IsFalse (c && d)
not_both a b true true h k shut = let up = h refl in let also = k refl in absurd (grind (arith, up, also, shut))
not_both a b true false h k shut = refl
not_both a b false d h k shut = refl

-- a product and a function, of whose sides it is known
pair_between : (a b : Type') (f g h : ℕ → Bool) → KeepsTurnsOf (Pair a b) g → Below (Pair a b) f g → Between (Pair a b) f g h
    → KeepsTurnsOf a h → KeepsTurnsOf b (beyond (count a) h) → KeepsTurnsOf (Pair a b) h
pair_between a b f g h (g_first, g_second, g_apart) below between one other = (
  one,
  other,
  not_both (some_open (count a) g) (some_open (count b) (beyond (count a) g)) (some_open (count a) h) (some_open (count b) (beyond (count a) h))
      (λ up. served_some a g (in_upper a f g h (below_first a b f g below) (between_first a b (count (Pair a b)) f g h (count_pair a b) between) (positive a h one up)))
      (λ up. served_some b (beyond (count a) g) (in_upper b (beyond (count a) f) (beyond (count a) g) (beyond (count a) h) (below_second a b f g below)
      (between_second a b (count (Pair a b)) f g h (count_pair a b) between) (positive b (beyond (count a) h) other up)))
      g_apart,
)

argument_between : (a b : Type') (f g h : ℕ → Bool) → Between (Fun a b) f g h → Between a g f h
argument_between a b f g h between = other_between a f g h (between_first a b (count (Fun a b)) f g h (count_fun a b) between)

outcome_between : (a b : Type') (f g h : ℕ → Bool) → Between (Fun a b) f g h → Between b (beyond (count a) f) (beyond (count a) g) (beyond (count a) h)
outcome_between a b f g h between = between_second a b (count (Fun a b)) f g h (count_fun a b) between

fun_between : (a b : Type') (f g h : ℕ → Bool) → KeepsTurnsOf (Fun a b) f → Below (Fun a b) f g → Between (Fun a b) f g h
    → KeepsTurnsOf a h → KeepsTurnsOf b (beyond (count a) h) → KeepsTurnsOf (Fun a b) h
fun_between a b f g h (f_first, f_second, f_leads) below between one other = (
  one,
  other,
  λ up. served_some b (beyond (count a) h)
      (from_lower b (beyond (count a) f) (beyond (count a) g) (beyond (count a) h) (below_outcome a b f g below) (outcome_between a b f g h between)
      (positive b (beyond (count a) f) f_second
      (f_leads (served_some a f (in_upper a g f h (below_argument a b f g below) (argument_between a b f g h between) (positive a h one up)))))),
)

-- what lies between keeps turns
pub kept_between : (t : Type') (f g h : ℕ → Bool) → KeepsTurnsOf t f → KeepsTurnsOf t g → Below t f g → Between t f g h → KeepsTurnsOf t h
kept_between Com f g h one other below between = tt
kept_between (Exp w) f g h one other below between = tt
kept_between (Var w) f g h one other below between = not_both (g 0) (g 1) (h 0) (h 1) (at_number 0 _ (omega arith) refl refl) (at_number 1 _ (omega arith) refl refl) other
  where
    at_number : (j : ℕ) (k : Contact) → j < 2 → slice_get (contacts_of (Var w)) j ≡ Some k → k.role ≡ Serve → h j ≡ true → g j ≡ true
    at_number j k low at role up = by_side (between j low)
      where
        by_side : (h j ≡ f j) ⊎ (h j ≡ g j) → g j ≡ true
        by_side (inl e) = subst (λ (x : Role). RoleBelow x (f j) (g j)) role (below j k at) (sym e ∙ up)
        by_side (inr e) = sym e ∙ up
kept_between (Pair a b) f g h one other below between =
    pair_between a b f g h other below between
    (kept_between a f g h one.0 other.0 (below_first a b f g below) (between_first a b (count (Pair a b)) f g h (count_pair a b) between))
    (kept_between b (beyond (count a) f) (beyond (count a) g) (beyond (count a) h) one.1 other.1 (below_second a b f g below)
    (between_second a b (count (Pair a b)) f g h (count_pair a b) between))
kept_between (Fun a b) f g h one other below between =
    fun_between a b f g h one below between
    (kept_between a g f h other.0 one.0 (below_argument a b f g below) (argument_between a b f g h between))
    (kept_between b (beyond (count a) f) (beyond (count a) g) (beyond (count a) h) one.1 other.1 (below_outcome a b f g below) (outcome_between a b f g h between))

-- and at all ports: imports are used, so theirs lie the other way round
pub ports_between : (n : ℕ) (is : List Imported) (t : Type') (f g h : End → Bool) → EachKeeps n is t f → EachKeeps n is t g
    → Below t (of_result f) (of_result g) → Between t (of_result f) (of_result g) (of_result h)
    → ((i : ℕ) (x : Imported) → slice_get is i ≡ Some x
    → Below x.ty (of_import g (n + i)) (of_import f (n + i)) × Between x.ty (of_import g (n + i)) (of_import f (n + i)) (of_import h (n + i)))
    → EachKeeps n is t h
ports_between n is t f g h (f_imports, f_result) (g_imports, g_result) below between each = (
  imports,
  kept_between t (of_result f) (of_result g) (of_result h) f_result g_result below between,
)
  where
    imports : (i : ℕ) (x : Imported) → slice_get is i ≡ Some x → ImportKeeps h (n + i) x t
    imports i x at = (own, leads)
      where
        of_f : ImportKeeps f (n + i) x t
        of_f = f_imports i x at

        of_g : ImportKeeps g (n + i) x t
        of_g = g_imports i x at

        lies : Below x.ty (of_import g (n + i)) (of_import f (n + i)) × Between x.ty (of_import g (n + i)) (of_import f (n + i)) (of_import h (n + i))
        lies = each i x at

        own : KeepsTurnsOf x.ty (of_import h (n + i))
        own = kept_between x.ty (of_import g (n + i)) (of_import f (n + i)) (of_import h (n + i)) of_g.0 of_f.0 lies.0 lies.1

        leads : IsTrue (some_open (count x.ty) (of_import h (n + i))) → IsTrue (some_open (count t) (of_result h))
        leads up =
            served_some t (of_result h)
            (from_lower t (of_result f) (of_result g) (of_result h) below between
            (positive t (of_result f) f_result
            (of_f.1
            (served_some x.ty (of_import f (n + i))
            (in_upper x.ty (of_import g (n + i)) (of_import f (n + i)) (of_import h (n + i)) lies.0 lies.1 (positive x.ty (of_import h (n + i)) own up))))))

-- where nothing is open turns are kept
pub none_open_of : (n : ℕ) (f : ℕ → Bool) → ((h : ℕ) → f h ≡ false) → some_open n f ≡ true → ⊥
none_open_of n f closed up = let (j, low, is) = some_there n f up in let clash : false ≡ true = sym (closed j) ∙ is in cc clash
