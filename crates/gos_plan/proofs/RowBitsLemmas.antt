-- The table of the firing rules, by bits: where what a row takes has at most its bits, so has what it puts.
use Rattle.std.specs.Prelude.{None, ◌^◌, ◌<◌, ◌-◌, nat_lt, get_or, set, replicate}
use Rattle.std.proofs.Common.{◌≡◌, inl, inr, ℕ, zero, suc, ◌+◌, ◌*◌, Bool, true, false, List, [], ◌∷◌, length, Some, slice_get, refl, sym, ◌∙◌, ap, subst, arith, nat_eq, if◌then◌else◌}
use Rattle.std.specs.List.{AllByRecursion}
use Rattle.std.proofs.lemmas.List.{length-replicate, length-set}
use Rattle.std.proofs.lemmas.Nat.{pow_pos, mod_below, and_le_l, or_lt, xor_lt}
use Rattle.gos_types.specs.declared.shakes.Role.{Role}
use Rattle.gos_types.specs.declared.shakes.Role.TheVariants.{Serve, Ask}
use Rattle.gos_types.specs.Types.{Type'}
use Rattle.gos_plan.specs.Kinds.{Part, Skip, Lit, Seq, Par, If, While, Op, Not, Assign, Deref, Local, Array, Share, Contact, asks, serves, turned_contact, contacts_of, part_contacts}
use Rattle.gos_model.specs.Terms.{Op as Operation, Add, Sub, And, Or, Xor, Eq, Less, result_of, result_width, complement}
use Rattle.gos_plan.specs.Firing.{Phase, Rest, First, Second, Both, LeftOnly, RightOnly, Test, Branch, Body, Left, Right, Waiting, Value, Writing, Active, Cells, Reading, WritingTo, State, at, Slot, Req, Ans, Token, put, Row, chosen, shared_rows, rows, firing}
use Rattle.gos_plan.specs.Tokens.{shake_of, way_of, bits_of}
use Rattle.gos_plan.specs.TokenBits.{LiteralFits, NumbersFit, NumberFits}
use Rattle.gos_plan.proofs.RowLemmas.{EachRow, row_with}
use Rattle.gos_plan.proofs.AskingLemmas.{source_at, first_caller_at, second_caller_at, caller_at}
use Rattle.gos_plan.proofs.ShareTableLemmas.{share_table}
use Rattle.gos_plan.proofs.ContactLemmas.{turned_bits}

-- what an operator computes has its bits
result_fits : (op : Operation) (w a b : ℕ) → a < 2 ^ w → b < 2 ^ w → result_of op w a b < 2 ^ result_width op w
result_fits Add w a b f g = mod_below (a + b) (2 ^ w) (pow_pos w)
result_fits Sub w a b f g = mod_below (a + 2 ^ w - b) (2 ^ w) (pow_pos w)
result_fits And w a b f g = omega (arith, f, and_le_l a b)
result_fits Or w a b f g = or_lt w a b f g
result_fits Xor w a b f g = xor_lt w a b f g
result_fits Eq w a b f g = by_test (nat_eq a b)
  where
    by_test : (t : Bool) → (if t then 1 else 0) < 2 ^ 1
    by_test true = omega arith
    by_test false = omega arith
result_fits Less w a b f g = by_test (nat_lt a b)
  where
    by_test : (t : Bool) → (if t then 1 else 0) < 2 ^ 1
    by_test true = omega arith
    by_test false = omega arith

complement_fits : (w a : ℕ) → complement w a < 2 ^ w
complement_fits w a = omega (arith, pow_pos w)

-- a token that a part puts has at most the bits of its handshake
abbrev pub Fitting : Part → Token → Type 0
Fitting k t = (c : Contact) → slice_get (part_contacts k) (shake_of t.slot) ≡ Some c → t.value < 2 ^ bits_of c (way_of t.slot)

abbrev pub AllFitting : Part → List Token → Type 0
AllFitting k [] = Unit {0}
AllFitting k (t ∷ ts) = Fitting k t × AllFitting k ts

-- one that it takes
abbrev pub Taking : Part → Slot → ℕ → Type 0
Taking k s v = (c : Contact) × (slice_get (part_contacts k) (shake_of s) ≡ Some c) × (v < 2 ^ bits_of c (way_of s))

abbrev pub RowFits : Part → ℕ → Row → Type 0
RowFits k v r = Taking k r.takes v → NumberFits k (r.next v) × AllFitting k (r.puts v)

none_fits : (k : Part) (s : Slot) → Fitting k (put s 0)
none_fits k s = λ c there. pow_pos (bits_of c (way_of s))

number_fits : (k : Part) (s : Slot) (v : ℕ) (d : Contact) → slice_get (part_contacts k) (shake_of s) ≡ Some d → v < 2 ^ bits_of d (way_of s) → Fitting k (put s v)
number_fits k s v d there small = λ c also. let is : d ≡ c = cc (there, also) in subst (λ (x : Contact). v < 2 ^ bits_of x (way_of s)) is small

taken_fits : (k : Part) (s : Slot) (v : ℕ) (d : Contact) → slice_get (part_contacts k) (shake_of s) ≡ Some d → Taking k s v → v < 2 ^ bits_of d (way_of s)
taken_fits k s v d there (c, also, small) = let is : c ≡ d = cc (also, there) in subst (λ (x : Contact). v < 2 ^ bits_of x (way_of s)) is small

-- what is taken at one handshake and put at another with the same bits
passed_on : (k : Part) (s r : Slot) (v : ℕ) (d c : Contact) → slice_get (part_contacts k) (shake_of s) ≡ Some d → slice_get (part_contacts k) (shake_of r) ≡ Some c
    → bits_of d (way_of s) ≡ bits_of c (way_of r) → Taking k s v → Fitting k (put r v)
passed_on k s r v d c from to bits takes =
    number_fits k r v c to (subst (λ (n : ℕ). v < 2 ^ n) bits (taken_fits k s v d from takes))

chosen_fits : (k : Part) (v : ℕ) (t u : Token) → Fitting k t → Fitting k u → Fitting k (chosen v t u)
chosen_fits k v t u f g = by_test (nat_eq v 1)
  where
    by_test : (b : Bool) → Fitting k (if b then t else u)
    by_test true = f
    by_test false = g

branch_fits : (u n v : ℕ) (b : Bool) → nat_eq n 1 ≡ b → EachRow (RowFits (If u) v) (rows (If u) Branch n)
branch_fits u n v true t = rw t ((λ h. ((λ e. absurd (cc e)), (passed_on (If u) (Ans 1) (Ans 3) v (asks 0 u) (serves 0 u) refl refl refl h, tt))), tt)
branch_fits u n v false t = rw t ((λ h. ((λ e. absurd (cc e)), (passed_on (If u) (Ans 2) (Ans 3) v (asks 0 u) (serves 0 u) refl refl refl h, tt))), tt)

-- the numbers of an array: at entry, the one that is read, and all of them where one is written
zeros_fit : (w k : ℕ) → NumbersFit w k (replicate k 0)
zeros_fit w k = (length-replicate k 0, all k)
  where
    all : (k : ℕ) → AllByRecursion (λ (n : ℕ). n < 2 ^ w) (replicate k 0)
    all zero = tt
    all (suc k) = (pow_pos w, all k)

read_fits : (w : ℕ) (ns : List ℕ) (j : ℕ) → AllByRecursion (λ (n : ℕ). n < 2 ^ w) ns → get_or ns j 0 < 2 ^ w
read_fits w [] j fit = pow_pos w
read_fits w (n ∷ ns) zero fit = fit.0
read_fits w (n ∷ ns) (suc j) fit = read_fits w ns j fit.1

write_fits : (w k : ℕ) (ns : List ℕ) (j a : ℕ) → a < 2 ^ w → NumbersFit w k ns → NumbersFit w k (set ns j a)
write_fits w k ns j a small fit = (length-set ns j a ∙ fit.0, all ns j fit.1)
  where
    all : (ns : List ℕ) (j : ℕ) → AllByRecursion (λ (n : ℕ). n < 2 ^ w) ns → AllByRecursion (λ (n : ℕ). n < 2 ^ w) (set ns j a)
    all [] j fit = tt
    all (n ∷ ns) zero fit = (small, fit.1)
    all (n ∷ ns) (suc j) fit = (fit.0, all ns j fit.1)

-- the table of the kinds other than Share
table : (k : Part) (p : Phase) (n v : ℕ) → ((t : Type') → k ≡ Share t → ⊥) → LiteralFits k → NumberFits k (at p n) → EachRow (RowFits k v) (rows k p n)
table Skip Rest n v u l f = ((λ h. (tt, (none_fits Skip (Ans 0), tt))), tt)
table (Lit w k) Rest n v u l f = ((λ h. (tt, (number_fits (Lit w k) (Ans 0) k (serves 0 w) refl l, tt))), tt)
table (Seq w) Rest n v u l f = ((λ h. (tt, (none_fits (Seq w) (Req 0), tt))), tt)
table (Seq w) First n v u l f = ((λ h. (tt, (none_fits (Seq w) (Req 1), tt))), tt)
table (Seq w) Second n v u l f = ((λ h. (tt, (passed_on (Seq w) (Ans 1) (Ans 2) v (asks 0 w) (serves 0 w) refl refl refl h, tt))), tt)
table Par Rest n v u l f = ((λ h. (tt, (none_fits Par (Req 0), (none_fits Par (Req 1), tt)))), tt)
table Par Both n v u l f = ((λ h. (tt, tt)), ((λ h. (tt, tt)), tt))
table Par LeftOnly n v u l f = ((λ h. (tt, (none_fits Par (Ans 2), tt))), tt)
table Par RightOnly n v u l f = ((λ h. (tt, (none_fits Par (Ans 2), tt))), tt)
table (If w) Rest n v u l f = ((λ h. ((λ e. absurd (cc e)), (none_fits (If w) (Req 0), tt))), tt)
table (If w) Test n v u l f =
    ((λ h. ((λ e. taken_fits (If w) (Ans 0) v (asks 0 1) refl h), (chosen_fits (If w) v (put (Req 1) 0) (put (Req 2) 0) (none_fits (If w) (Req 1)) (none_fits (If w) (Req 2)), tt))), tt)
table (If w) Branch n v u l f = branch_fits w n v (nat_eq n 1) refl
table While Rest n v u l f = ((λ h. (tt, (none_fits While (Req 0), tt))), tt)
table While Test n v u l f = ((λ h. (tt, (chosen_fits While v (put (Req 1) 0) (put (Ans 2) 0) (none_fits While (Req 1)) (none_fits While (Ans 2)), tt))), tt)
table While Body n v u l f = ((λ h. (tt, (none_fits While (Req 0), tt))), tt)
table (Op op w) Rest n v u l f = ((λ h. ((λ e. absurd (cc e)), (none_fits (Op op w) (Req 0), tt))), tt)
table (Op op w) Left n v u l f = ((λ h. ((λ e. taken_fits (Op op w) (Ans 0) v (asks 0 w) refl h), (none_fits (Op op w) (Req 1), tt))), tt)
table (Op op w) Right n v u l f = (
  (λ h. (
    (λ e. absurd (cc e)),
    (
      number_fits (Op op w) (Ans 2) (result_of op w n v) (serves 0 (result_width op w)) refl
          (result_fits op w n v (f refl) (taken_fits (Op op w) (Ans 1) v (asks 0 w) refl h)),
      tt,
    ),
  )),
  tt,
)
table (Not w) Rest n v u l f = ((λ h. (tt, (none_fits (Not w) (Req 0), tt))), tt)
table (Not w) Waiting n v u l f = ((λ h. (tt, (number_fits (Not w) (Ans 1) (complement w v) (serves 0 w) refl (complement_fits w v), tt))), tt)
table (Assign w) Rest n v u l f = ((λ h. (tt, (none_fits (Assign w) (Req 0), tt))), tt)
table (Assign w) Value n v u l f = ((λ h. (tt, (passed_on (Assign w) (Ans 0) (Req 1) v (asks 0 w) (asks w 0) refl refl refl h, tt))), tt)
table (Assign w) Writing n v u l f = ((λ h. (tt, (none_fits (Assign w) (Ans 2), tt))), tt)
table (Deref w) Rest n v u l f = ((λ h. (tt, (none_fits (Deref w) (Req 0), tt))), tt)
table (Deref w) Waiting n v u l f = ((λ h. (tt, (passed_on (Deref w) (Ans 0) (Ans 1) v (asks 0 w) (serves 0 w) refl refl refl h, tt))), tt)
table (Local w b) Rest n v u l f = ((λ h. ((λ e. pow_pos w), (none_fits (Local w b) (Req 0), tt))), tt)
table (Local w b) Active n v u l f = (
  (λ h. (f, (number_fits (Local w b) (Ans 1) n (serves 0 w) refl (f refl), tt))),
  (
    (λ h. ((λ e. taken_fits (Local w b) (Req 2) v (serves w 0) refl h), (none_fits (Local w b) (Ans 2), tt))),
    ((λ h. ((λ e. absurd (cc e)), (passed_on (Local w b) (Ans 0) (Ans 3) v (asks 0 b) (serves 0 b) refl refl refl h, tt))), tt),
  ),
)
table (Array w k b) Rest n v u l f = ((λ h. (zeros_fit w k, (none_fits (Array w k b) (Req 0), tt))), tt)
table (Array w k b) (Cells ns) n v u l f = (
  (λ h. (f, (none_fits (Array w k b) (Req 1), tt))),
  (
    (λ h. ((f, taken_fits (Array w k b) (Req 3) v (serves w 0) refl h), (none_fits (Array w k b) (Req 1), tt))),
    ((λ h. (tt, (passed_on (Array w k b) (Ans 0) (Ans 4) v (asks 0 b) (serves 0 b) refl refl refl h, tt))), tt),
  ),
)
table (Array w k b) (Reading ns) n v u l f =
    ((λ h. (f, (number_fits (Array w k b) (Ans 2) (get_or ns v 0) (serves 0 w) refl (read_fits w ns v f.1), tt))), tt)
table (Array w k b) (WritingTo ns) n v u l f = ((λ h. (write_fits w k ns v n f.1 f.0, (none_fits (Array w k b) (Ans 3), tt))), tt)
table (Share t) p n v u l f = absurd (u t refl)
table k p n v u l f = tt

-- the rows of a Share pass a token on to a handshake with the same bits
-- from a caller to the source, and back
to_source : (t : Type') (s r : Slot) (v : ℕ) (c : Contact) → slice_get (part_contacts (Share t)) (shake_of s) ≡ Some c
    → slice_get (part_contacts (Share t)) (shake_of r) ≡ Some (turned_contact c) → way_of s ≡ way_of r → Taking (Share t) s v → Fitting (Share t) (put r v)
to_source t s r v c from to ways takes =
    passed_on (Share t) s r v c (turned_contact c) from to (ap (bits_of c) ways ∙ sym (turned_bits c (way_of r))) takes

to_caller : (t : Type') (s r : Slot) (v : ℕ) (c : Contact) → slice_get (part_contacts (Share t)) (shake_of s) ≡ Some (turned_contact c)
    → slice_get (part_contacts (Share t)) (shake_of r) ≡ Some c → way_of s ≡ way_of r → Taking (Share t) s v → Fitting (Share t) (put r v)
to_caller t s r v c from to ways takes =
    passed_on (Share t) s r v (turned_contact c) c from to (turned_bits c (way_of s) ∙ ap (bits_of c) ways) takes

share_fits : (t : Type') (b v j : ℕ) (c : Contact) → slice_get (contacts_of t) j ≡ Some c
    → EachRow (RowFits (Share t) v) (shared_rows c.role (length (contacts_of t)) j b)
share_fits t b v j c here = of_role c.role
  where
    size : ℕ
    size = length (contacts_of t)

    source : slice_get (part_contacts (Share t)) j ≡ Some (turned_contact c)
    source = source_at t j c here

    first_caller : slice_get (part_contacts (Share t)) (size + j) ≡ Some c
    first_caller = first_caller_at t j c here

    second_caller : slice_get (part_contacts (Share t)) (size + size + j) ≡ Some c
    second_caller = second_caller_at t j c here

    -- what is put at a caller's handshake, or beyond them
    caller_fits : (s r : Slot) → shake_of r ≡ size + b * size + j → shake_of s ≡ j → way_of s ≡ way_of r → Taking (Share t) s v → Fitting (Share t) (put r v)
    caller_fits s r is at_source ways takes =
        elim (caller_at t b j c here) [
          | inl caller ↦
              to_caller t s r v c (ap (slice_get (part_contacts (Share t))) at_source ∙ source) (ap (slice_get (part_contacts (Share t))) is ∙ caller) ways takes
          | inr past ↦ λ d also. let none : None ≡ Some d = sym past ∙ (sym (ap (slice_get (part_contacts (Share t))) is) ∙ also) in absurd (cc none)
        ]

    -- what is taken at one
    from_caller : Taking (Share t) (Ans (size + b * size + j)) v → Fitting (Share t) (put (Ans j) v)
    from_caller takes =
        elim (caller_at t b j c here) [
          | inl caller ↦ to_source t (Ans (size + b * size + j)) (Ans j) v c caller source refl takes
          | inr past ↦ absurd (let none : None ≡ Some takes.0 = sym past ∙ takes.1 in cc none)
        ]

    of_role : (role : Role) → EachRow (RowFits (Share t) v) (shared_rows role size j b)
    of_role Serve = (
      (λ h. (tt, (to_source t (Req (size + j)) (Req j) v c first_caller source refl h, tt))),
      (
        (λ h. (tt, (to_source t (Req (size + size + j)) (Req j) v c second_caller source refl h, tt))),
        ((λ h. (tt, (caller_fits (Ans j) (Ans (size + b * size + j)) refl refl refl h, tt))), tt),
      ),
    )
    of_role Ask = (
      (λ h. (tt, (caller_fits (Req j) (Req (size + b * size + j)) refl refl refl h, tt))),
      ((λ h. (tt, (from_caller h, tt))), tt),
    )

all_rows : (k : Part) (p : Phase) (n v : ℕ) → LiteralFits k → NumberFits k (at p n) → EachRow (RowFits k v) (rows k p n)
all_rows (Share t) p n v l f = share_table (RowFits (Share t) v) t n (share_fits t n v) p
all_rows k p n v l f = table k p n v (λ t e. cc e) l f

pub row_fits : (k : Part) (q : State) (t : Slot) (r : Row) (v : ℕ) → LiteralFits k → NumberFits k q → firing k q t ≡ Some r → (r.takes ≡ t) × RowFits k v r
row_fits k q t r v l f e = row_with (RowFits k v) t (rows k q.phase q.number) r (all_rows k q.phase q.number v l f) e
