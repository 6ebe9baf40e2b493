-- The late firings of a Share: the requests of the source, then those of caller 0, then those of caller 1.
--
-- Read first: Requests, Row.
use Rattle.std.proofs.Common.{◌≡◌, ℕ, zero, suc, ◌+◌, ◌*◌, ◌≤◌, Bool, true, false, List, [], ◌∷◌, ◌++◌, refl, sym, ◌∙◌, ap, subst, arith}
use Rattle.std.specs.Prelude.{length, nat_eq, if◌then◌else◌, bit_or}
use Rattle.std.proofs.lemmas.List.{length-map}
use Rattle.gos_types.specs.declared.shakes.Role.{Role}
use Rattle.gos_types.specs.declared.shakes.Role.TheVariants.{Serve, Ask}
use Rattle.gos_types.specs.Types.{Type'}
use Rattle.gos_plan.specs.Kinds.{Share, Contact, contacts_of, turned_contact, other_side}
use Rattle.gos_plan.specs.Firing.{Rest, State, Slot, Token, at}
use Rattle.gos_plan.specs.Firings.{due, Asked, Fires}
use Rattle.gos_macro.specs.Law.{pulsed}
use Rattle.gos_macro.specs.laws.Passing.{due_append}
use Rattle.gos_share.specs.laws.Rows.{count_of, branch_side}
use Rattle.gos_share.specs.laws.Slots.{requests, requests_append, pulsed_append}
use Rattle.gos_share.specs.laws.Requests.{first_sent, second_sent, source_sent, passed_at, passed, branch_at, branch_behind, passing, once, requests_are}
use Rattle.gos_share.specs.laws.Comes.{sides, AllCome}
use Rattle.gos_share.specs.laws.Row.{to_zero, to_one, OneAsks, AllOneAsk}

abbrev to_itself : ℕ → ℕ
to_itself n = n

-- the late slots, section by section
end_nil : (ss : List Slot) → ss ++ [] ≡ ss
end_nil [] = refl
end_nil (s ∷ ss) = ap (λ (us : List Slot). s ∷ us) (end_nil ss)

sections : (p : ℕ → ℕ) (all : List Contact)
    → pulsed p (requests 0 (sides all))
    ≡ pulsed p (requests 0 (other_side all)) ++ (pulsed p (requests (length all) all) ++ (pulsed p (requests (length all + length all) all) ++ []))
sections p all =
    let h = length all in
    let long : 0 + length (other_side all) ≡ h = (let same = length-map all turned_contact in omega (arith, same)) in
    let first : requests 0 (sides all) ≡ requests 0 (other_side all) ++ requests h (all ++ all) =
    requests_append 0 (other_side all) (all ++ all) ∙ ap (λ (e : ℕ). requests 0 (other_side all) ++ requests e (all ++ all)) long in
    let second : requests h (all ++ all) ≡ requests h all ++ requests (h + h) all = requests_append h all all in
    ap (pulsed p) first
    ∙ (pulsed_append p (requests 0 (other_side all)) (requests h (all ++ all))
    ∙ ap (λ (ss : List Slot). pulsed p (requests 0 (other_side all)) ++ ss)
    (ap (pulsed p) second
    ∙ (pulsed_append p (requests h all) (requests (h + h) all)
    ∙ ap (λ (ss : List Slot). pulsed p (requests h all) ++ ss) (sym (end_nil (pulsed p (requests (h + h) all)))))))

-- the source's requests leave the branch
stays : (p : ℕ → ℕ) (e n : ℕ) (ks : List Contact) → branch_behind to_itself p e n ks ≡ n
stays p e n [] = refl
stays p e n (k ∷ ks) = by_role k.role (stays p (suc e) n ks)
  where
    by_role : (r : Role) → branch_behind to_itself p (suc e) n ks ≡ n → branch_behind to_itself p (suc e) (branch_at r to_itself (p e) n) ks ≡ n
    by_role Ask ih = ih
    by_role Serve ih = by_test (nat_eq (p e) 1)
      where
        by_test : (t : Bool) → branch_behind to_itself p (suc e) (if t then n else n) ks ≡ n
        by_test true = ih
        by_test false = ih

-- the branch after all requests of the callers
abbrev pub branch_after : (ℕ → ℕ) → ℕ → ℕ → List Contact → ℕ
branch_after p h n ks = branch_behind to_one p (h + h) (branch_behind to_zero p h n ks) ks

-- what the late firings put, and where they lead
pub record Late (h n : ℕ) (p x : ℕ → ℕ) (all : List Contact) (s : State) (us : List Token) : Type 0 where
  pub state : s ≡ at Rest (branch_after p h n all)
  pub puts : us ≡ passed p x 0 (h + n * h) (other_side all) ++ (passed p x h 0 all ++ passed p x (h + h) 0 all)
  pub once : (d : ℕ) → due d us ≤ 1

token_nil : (ts : List Token) → ts ++ [] ≡ ts
token_nil [] = refl
token_nil (t ∷ ts) = ap (λ (us : List Token). t ∷ us) (token_nil ts)

-- three lists of tokens, one behind the other
in_three : (first second third whole rest last none : List Token) → whole ≡ first ++ rest → rest ≡ second ++ last → last ≡ third ++ none → none ≡ []
    → whole ≡ first ++ (second ++ third)
in_three first second third whole rest last none one two three nothing =
    let ends : last ≡ third = three ∙ (ap (λ (ts : List Token). third ++ ts) nothing ∙ token_nil third) in
    let behind : rest ≡ second ++ third = two ∙ ap (λ (ts : List Token). second ++ ts) ends in
    one ∙ ap (λ (ts : List Token). first ++ ts) behind

pub late : (t : Type') (x p : ℕ → ℕ) (o : Asked) (n : ℕ) (b : Asked) (s : State) (us : List Token)
    → Fires (Share t) x o (at Rest n) (pulsed p (requests 0 (sides (contacts_of t)))) b s us → Late (count_of t) n p x (contacts_of t) s us
late t x p o n b s us fires =
    let all = contacts_of t in
    let h = count_of t in
    let first = pulsed p (requests h all) in
    let second = pulsed p (requests (h + h) all) in
    let split = subst (λ (ss : List Slot). Fires (Share t) x o (at Rest n) ss b s us) (sections p all) fires in
    let long = length-map all turned_contact in
    let one = passing t x p to_itself (branch_side h) 0 (source_sent t x) (λ m. refl) (other_side all) 0 0 (h + n * h) n o (first ++ (second ++ [])) b s us
    (omega (arith, long)) (omega arith) (omega arith) split in
    let after_one = subst (λ (m : ℕ). Fires (Share t) x one.between (at Rest m) (first ++ (second ++ [])) b s one.rest) (stays p 0 n (other_side all)) one.go in
    let two = passing t x p to_zero to_zero h (first_sent t x) (λ m. refl) all 0 h 0 n one.between (second ++ []) b s one.rest
    (omega arith) (omega arith) (omega arith) after_one in
    let three = passing t x p to_one to_zero (h + h) (second_sent t x) (λ m. refl) all 0 (h + h) 0 (branch_behind to_zero p h n all) two.between [] b s two.rest
    (omega arith) (omega arith) (omega arith) two.go in
    let at_most = once t x o n (pulsed p (requests 0 (sides all))) b s us (requests_are p 0 (sides all)) fires in
    record {
      state = three.go.1;
      puts = in_three (passed p x 0 (h + n * h) (other_side all)) (passed p x h 0 all) (passed p x (h + h) 0 all) us one.rest two.rest three.rest one.puts two.puts three.puts three.go.2;
      once = λ d. let small = at_most d in omega (arith, small);
    }

-- so at most one caller asks at each handshake
due_passed : (j m a : ℕ) → m ≤ 1 → due j (passed_at Serve m a j) ≡ m
due_passed j zero a small = refl
due_passed j (suc zero) a small = rw (same j) refl
  where
    same : (e : ℕ) → nat_eq e e ≡ true
    same e = grind arith
due_passed j (suc (suc m)) a small = absurd (omega (arith, small))

pub one_ask : (p x a : ℕ → ℕ) (fs : List Slot) (h j e1 e2 : ℕ) (ks : List Contact) → e1 ≡ h + j → e2 ≡ h + h + j → AllCome p x a fs h j ks
    → ((d : ℕ) → due d (passed p x e1 j ks) + due d (passed p x e2 j ks) ≤ 1) → AllOneAsk p h j ks
one_ask p x a fs h j e1 e2 [] is1 is2 comes once = tt
one_ask p x a fs h j e1 e2 (k ∷ ks) is1 is2 comes once = (
  by_role k.role comes.1.pulse comes.2.pulse (λ d.
      let d1 = due_append d (passed_at k.role (p e1) (x e1) j) (passed p x (suc e1) (suc j) ks) in
      let d2 = due_append d (passed_at k.role (p e2) (x e2) j) (passed p x (suc e2) (suc j) ks) in
      let both = once d in
      omega (arith, d1, d2, both)),
  one_ask p x a fs h (suc j) (suc e1) (suc e2) ks (omega (arith, is1)) (omega (arith, is2)) comes.3 (λ d.
      let d1 = due_append d (passed_at k.role (p e1) (x e1) j) (passed p x (suc e1) (suc j) ks) in
      let d2 = due_append d (passed_at k.role (p e2) (x e2) j) (passed p x (suc e2) (suc j) ks) in
      let both = once d in
      omega (arith, d1, d2, both)),
)
  where
    by_role : (r : Role) → p (h + j) ≤ 1 → p (h + h + j) ≤ 1 → ((d : ℕ) → due d (passed_at r (p e1) (x e1) j) + due d (passed_at r (p e2) (x e2) j) ≤ 1) → OneAsks r p h j
    by_role Ask f g small = tt
    by_role Serve f g small =
        let s1 : p e1 ≡ p (h + j) = ap p is1 in
        let s2 : p e2 ≡ p (h + h + j) = ap p is2 in
        let c1 = due_passed j (p e1) (x e1) (omega (arith, s1, f)) in
        let c2 = due_passed j (p e2) (x e2) (omega (arith, s2, g)) in
        let both = small j in
        omega (arith, s1, s2, c1, c2, both)

-- the branch as the gates compute it: caller 1 asked at one handshake, or the branch is as caller 0 leaves it
or_nothing : (n : ℕ) → n ≤ 1 → n ≡ bit_or n 0
or_nothing zero small = refl
or_nothing (suc zero) small = refl
or_nothing (suc (suc n)) small = absurd (omega (arith, small))

or_anything : (n : ℕ) → n ≤ 1 → 1 ≡ bit_or n 1
or_anything zero small = refl
or_anything (suc zero) small = refl
or_anything (suc (suc n)) small = absurd (omega (arith, small))

pub or_behind : (p : ℕ → ℕ) (e n m : ℕ) (ks : List Contact) → n ≤ 1 → branch_behind to_one p e (bit_or n m) ks ≡ bit_or n (branch_behind to_one p e m ks)
or_behind p e n m [] small = refl
or_behind p e n m (k ∷ ks) small = by_role k.role (λ c. or_behind p (suc e) n c ks small)
  where
    by_role : (r : Role)
        → ((c : ℕ) → branch_behind to_one p (suc e) (bit_or n c) ks ≡ bit_or n (branch_behind to_one p (suc e) c ks))
        → branch_behind to_one p (suc e) (branch_at r to_one (p e) (bit_or n m)) ks ≡ bit_or n (branch_behind to_one p (suc e) (branch_at r to_one (p e) m) ks)
    by_role Ask ih = ih m
    by_role Serve ih = by_test (nat_eq (p e) 1)
      where
        by_test : (t : Bool) → branch_behind to_one p (suc e) (if t then 1 else bit_or n m) ks ≡ bit_or n (branch_behind to_one p (suc e) (if t then 1 else m) ks)
        by_test false = ih m
        by_test true = ap (λ (c : ℕ). branch_behind to_one p (suc e) c ks) (or_anything n small) ∙ ih 1

pub zero_small : (p : ℕ → ℕ) (e n : ℕ) (ks : List Contact) → n ≤ 1 → branch_behind to_zero p e n ks ≤ 1
zero_small p e n [] small = small
zero_small p e n (k ∷ ks) small = by_role k.role (λ c low. zero_small p (suc e) c ks low)
  where
    by_role : (r : Role) → ((c : ℕ) → c ≤ 1 → branch_behind to_zero p (suc e) c ks ≤ 1) → branch_behind to_zero p (suc e) (branch_at r to_zero (p e) n) ks ≤ 1
    by_role Ask ih = ih n small
    by_role Serve ih = by_test (nat_eq (p e) 1)
      where
        by_test : (t : Bool) → branch_behind to_zero p (suc e) (if t then 0 else n) ks ≤ 1
        by_test true = ih 0 (omega arith)
        by_test false = ih n small

pub one_small : (p : ℕ → ℕ) (e n : ℕ) (ks : List Contact) → n ≤ 1 → branch_behind to_one p e n ks ≤ 1
one_small p e n [] small = small
one_small p e n (k ∷ ks) small = by_role k.role (λ c low. one_small p (suc e) c ks low)
  where
    by_role : (r : Role) → ((c : ℕ) → c ≤ 1 → branch_behind to_one p (suc e) c ks ≤ 1) → branch_behind to_one p (suc e) (branch_at r to_one (p e) n) ks ≤ 1
    by_role Ask ih = ih n small
    by_role Serve ih = by_test (nat_eq (p e) 1)
      where
        by_test : (t : Bool) → branch_behind to_one p (suc e) (if t then 1 else n) ks ≤ 1
        by_test true = ih 1 (omega arith)
        by_test false = ih n small

pub computed : (p : ℕ → ℕ) (h n : ℕ) (ks : List Contact) → n ≤ 1 → bit_or (branch_behind to_zero p h n ks) (branch_behind to_one p (h + h) 0 ks) ≡ branch_after p h n ks
computed p h n ks small =
    let first = branch_behind to_zero p h n ks in
    let low = zero_small p h n ks small in
    sym (or_behind p (h + h) first 0 ks low) ∙ ap (λ (c : ℕ). branch_behind to_one p (h + h) c ks) (sym (or_nothing first low))
