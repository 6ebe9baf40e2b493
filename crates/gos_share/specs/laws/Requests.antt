-- What the late firings of a Share put: requests alone, each at another handshake, and which branch they lead to.
--
-- Read first: Rows, Slots.
use Rattle.std.proofs.Common.{◌≡◌, ℕ, suc, ◌+◌, ◌≤◌, Bool, true, false, List, [], ◌∷◌, ◌++◌, refl, sym, ◌∙◌, ap, subst, arith}
use Rattle.std.specs.Prelude.{◌<◌, length, nat_eq, if◌then◌else◌}
use Rattle.gos_types.specs.declared.shakes.Role.{Role}
use Rattle.gos_types.specs.declared.shakes.Role.TheVariants.{Serve, Ask}
use Rattle.gos_types.specs.Types.{Type'}
use Rattle.gos_plan.specs.Kinds.{Share, Contact}
use Rattle.gos_plan.specs.Firing.{Rest, State, Slot, Req, Ans, Token, row, at, put}
use Rattle.gos_plan.specs.Tokens.{shake_of}
use Rattle.gos_plan.specs.Firings.{due, Asked, with_asked, Fires}
use Rattle.gos_macro.specs.Law.{pulsed}
use Rattle.gos_plan.specs.laws.Inversion.{Stepped}
use Rattle.gos_share.specs.laws.Rows.{count_of, branch_side, Turn, first_asks, second_asks, source_answers, source_asks, branch_answers, turn}
use Rattle.gos_share.specs.laws.Slots.{request_at, requests}

-- a first firing that takes a request at e, puts it at d, and leads to the branch n
pub record Sent (t : Type') (x : ℕ → ℕ) (o : Asked) (e d n : ℕ) (ss : List Slot) (p : Asked) (q : State) (ts : List Token) : Type 0 where
  pub rest : List Token
  pub quiet : o d ≡ false
  pub puts : ts ≡ put (Req d) (x e) ∷ rest
  pub go : Fires (Share t) x (with_asked d true o) (at Rest n) ss p q rest

as_sent : (t : Type') (x : ℕ → ℕ) (o : Asked) (e d n : ℕ) (s : Slot) (ss : List Slot) (p : Asked) (q : State) (ts : List Token)
    → Stepped (Share t) x o (row (Req e) (at Rest n) (put (Req d))) s ss p q ts → Sent t x o e d n ss p q ts
as_sent t x o e d n s ss p q ts step = record { rest = step.rest; quiet = step.well.0; puts = step.puts; go = step.go }

renamed : (t : Type') (x : ℕ → ℕ) (o : Asked) (e d f g n : ℕ) (ss : List Slot) (p : Asked) (q : State) (ts : List Token) → e ≡ f → d ≡ g
    → Sent t x o e d n ss p q ts → Sent t x o f g n ss p q ts
renamed t x o e d f g n ss p q ts same_e same_d sent =
    subst (λ (c : ℕ). Sent t x o f c n ss p q ts) same_d (subst (λ (c : ℕ). Sent t x o c d n ss p q ts) same_e sent)

number : (e f : ℕ) → Req e ≡ Req f → e ≡ f
number e f same = ap shake_of same

no_answer : (e f : ℕ) → Req e ≡ Ans f → ⊥
no_answer e f same = grind (arith, same)

-- the firing of each section of requests: those of caller 0, of caller 1, and of the source
pub first_sent : (t : Type') (x : ℕ → ℕ) (o : Asked) (n m e d : ℕ) (ss : List Slot) (p : Asked) (q : State) (ts : List Token) → m < count_of t → e ≡ count_of t + m → d ≡ 0 + m
    → Fires (Share t) x o (at Rest n) (Req e ∷ ss) p q ts → Sent t x o e d 0 ss p q ts
first_sent t x o n m e d ss p q ts low is goes fires = by_turn (turn t x o n (Req e) ss p q ts fires)
  where
    by_turn : Turn t x o n (Req e) ss p q ts → Sent t x o e d 0 ss p q ts
    by_turn (first_asks l there s) =
        let same = number e (count_of t + l) s.is in
        renamed t x o (count_of t + l) l e d 0 ss p q ts (sym same) (omega (arith, same, is, goes)) (as_sent t x o (count_of t + l) l 0 (Req e) ss p q ts s)
    by_turn (second_asks l there s) = absurd (let same = number e (count_of t + count_of t + l) s.is in omega (arith, same, is, low))
    by_turn (source_answers l there s) = absurd (no_answer e l s.is)
    by_turn (source_asks l there s) = absurd (let same = number e l s.is in omega (arith, same, is, there))
    by_turn (branch_answers l there s) = absurd (no_answer e (branch_side (count_of t) n + l) s.is)

pub second_sent : (t : Type') (x : ℕ → ℕ) (o : Asked) (n m e d : ℕ) (ss : List Slot) (p : Asked) (q : State) (ts : List Token) → m < count_of t → e ≡ count_of t + count_of t + m → d ≡ 0 + m
    → Fires (Share t) x o (at Rest n) (Req e ∷ ss) p q ts → Sent t x o e d 1 ss p q ts
second_sent t x o n m e d ss p q ts low is goes fires = by_turn (turn t x o n (Req e) ss p q ts fires)
  where
    by_turn : Turn t x o n (Req e) ss p q ts → Sent t x o e d 1 ss p q ts
    by_turn (first_asks l there s) = absurd (let same = number e (count_of t + l) s.is in omega (arith, same, is, there))
    by_turn (second_asks l there s) =
        let same = number e (count_of t + count_of t + l) s.is in
        renamed t x o (count_of t + count_of t + l) l e d 1 ss p q ts (sym same) (omega (arith, same, is, goes)) (as_sent t x o (count_of t + count_of t + l) l 1 (Req e) ss p q ts s)
    by_turn (source_answers l there s) = absurd (no_answer e l s.is)
    by_turn (source_asks l there s) = absurd (let same = number e l s.is in omega (arith, same, is, there))
    by_turn (branch_answers l there s) = absurd (no_answer e (branch_side (count_of t) n + l) s.is)

pub source_sent : (t : Type') (x : ℕ → ℕ) (o : Asked) (n m e d : ℕ) (ss : List Slot) (p : Asked) (q : State) (ts : List Token) → m < count_of t → e ≡ 0 + m → d ≡ branch_side (count_of t) n + m
    → Fires (Share t) x o (at Rest n) (Req e ∷ ss) p q ts → Sent t x o e d n ss p q ts
source_sent t x o n m e d ss p q ts low is goes fires = by_turn (turn t x o n (Req e) ss p q ts fires)
  where
    by_turn : Turn t x o n (Req e) ss p q ts → Sent t x o e d n ss p q ts
    by_turn (first_asks l there s) = absurd (let same = number e (count_of t + l) s.is in omega (arith, same, is, low))
    by_turn (second_asks l there s) = absurd (let same = number e (count_of t + count_of t + l) s.is in omega (arith, same, is, low))
    by_turn (source_answers l there s) = absurd (no_answer e l s.is)
    by_turn (source_asks l there s) =
        let same = number e l s.is in
        let here : l ≡ m = omega (arith, same, is) in
        renamed t x o l (branch_side (count_of t) n + l) e d n ss p q ts (sym same) (ap (λ (c : ℕ). branch_side (count_of t) n + c) here ∙ sym goes) (as_sent t x o l (branch_side (count_of t) n + l) n (Req e) ss p q ts s)
    by_turn (branch_answers l there s) = absurd (no_answer e (branch_side (count_of t) n + l) s.is)

-- the tokens that pulses of requests put, where the first handshake is e and they go out from d on
abbrev pub passed_at : Role → ℕ → ℕ → ℕ → List Token
passed_at Serve m a d = if nat_eq m 1 then put (Req d) a ∷ [] else []
passed_at Ask m a d = []

abbrev pub passed : (ℕ → ℕ) → (ℕ → ℕ) → ℕ → ℕ → List Contact → List Token
passed p x e d [] = []
passed p x e d (k ∷ ks) = passed_at k.role (p e) (x e) d ++ passed p x (suc e) (suc d) ks

-- the branch behind them, where each leads to the next one
abbrev pub branch_at : Role → (ℕ → ℕ) → ℕ → ℕ → ℕ
branch_at Serve next m n = if nat_eq m 1 then next n else n
branch_at Ask next m n = n

abbrev pub branch_behind : (ℕ → ℕ) → (ℕ → ℕ) → ℕ → ℕ → List Contact → ℕ
branch_behind next p e n [] = n
branch_behind next p e n (k ∷ ks) = branch_behind next p (suc e) (branch_at k.role next (p e) n) ks

-- firings of such a section, and what is behind them
pub record Passing (t : Type') (x p next : ℕ → ℕ) (e d n : ℕ) (ks : List Contact) (behind : List Slot) (b : Asked) (q : State) (ts : List Token) : Type 0 where
  pub between : Asked
  pub rest : List Token
  pub puts : ts ≡ passed p x e d ks ++ rest
  pub go : Fires (Share t) x between (at Rest (branch_behind next p e n ks)) behind b q rest

abbrev pub IsSection : Type' → (ℕ → ℕ) → (ℕ → ℕ) → (ℕ → ℕ) → ℕ → Type 0
IsSection t x next to first =
    (o : Asked) (n m e d : ℕ) (ss : List Slot) (p : Asked) (q : State) (ts : List Token) → m < count_of t → e ≡ first + m → d ≡ to n + m
    → Fires (Share t) x o (at Rest n) (Req e ∷ ss) p q ts → Sent t x o e d (next n) ss p q ts

pub passing : (t : Type') (x p next to : ℕ → ℕ) (first : ℕ) → IsSection t x next to first → ((n : ℕ) → to (next n) ≡ to n)
    → (ks : List Contact) (j e d n : ℕ) (o : Asked) (behind : List Slot) (b : Asked) (q : State) (ts : List Token)
    → j + length ks ≤ count_of t → e ≡ first + j → d ≡ to n + j
    → Fires (Share t) x o (at Rest n) (pulsed p (requests e ks) ++ behind) b q ts → Passing t x p next e d n ks behind b q ts
passing t x p next to first section keeps [] j e d n o behind b q ts within is goes fires =
    record { between = o; rest = ts; puts = refl; go = fires }
passing t x p next to first section keeps (k ∷ ks) j e d n o behind b q ts within is goes fires =
    let known = by_role k.role
    (λ m a us goes_too. passing t x p next to first section keeps ks (suc j) (suc e) (suc d) m a behind b q us (omega (arith, within)) (omega (arith, is)) (omega (arith, goes, goes_too)))
    fires in
    record { between = known.0; rest = known.1; puts = known.2; go = known.3 }
  where
    by_role : (r : Role)
        → ((m : ℕ) (a : Asked) (us : List Token) → to m ≡ to n → Fires (Share t) x a (at Rest m) (pulsed p (requests (suc e) ks) ++ behind) b q us → Passing t x p next (suc e) (suc d) m ks behind b q us)
        → Fires (Share t) x o (at Rest n) (pulsed p (request_at r e ++ requests (suc e) ks) ++ behind) b q ts
        → (between : Asked) × (rest : List Token) × (ts ≡ (passed_at r (p e) (x e) d ++ passed p x (suc e) (suc d) ks) ++ rest)
        × Fires (Share t) x between (at Rest (branch_behind next p (suc e) (branch_at r next (p e) n) ks)) behind b q rest
    by_role Ask ih go = let known = ih n o ts refl go in (known.between, known.rest, known.puts, known.go)
    by_role Serve ih go = by_test (nat_eq (p e) 1) go
      where
        by_test : (c : Bool)
            → Fires (Share t) x o (at Rest n) ((if c then Req e ∷ pulsed p (requests (suc e) ks) else pulsed p (requests (suc e) ks)) ++ behind) b q ts
            → (between : Asked) × (rest : List Token) × (ts ≡ ((if c then put (Req d) (x e) ∷ [] else []) ++ passed p x (suc e) (suc d) ks) ++ rest)
            × Fires (Share t) x between (at Rest (branch_behind next p (suc e) (if c then next n else n) ks)) behind b q rest
        by_test false go = let known = ih n o ts refl go in (known.between, known.rest, known.puts, known.go)
        by_test true go =
            let sent = section o n j e d (pulsed p (requests (suc e) ks) ++ behind) b q ts (omega (arith, within)) is goes go in
            let known = ih (next n) _ sent.rest (keeps n) sent.go in
            (known.between, known.rest, sent.puts ∙ ap (λ (us : List Token). put (Req d) (x e) ∷ us) known.puts, known.go)

-- requests alone
abbrev pub IsRequest : Slot → Type 0
IsRequest (Req e) = Unit {0}
IsRequest (Ans e) = ⊥

abbrev pub AreRequests : List Slot → Type 0
AreRequests [] = Unit {0}
AreRequests (s ∷ ss) = IsRequest s × AreRequests ss

abbrev pub one_if : Bool → ℕ
one_if true = 1
one_if false = 0

sent_once : (t : Type') (x : ℕ → ℕ) (o : Asked) (e d n c : ℕ) (ss : List Slot) (p : Asked) (q : State) (ts : List Token) → (s : Sent t x o e d n ss p q ts)
    → due c s.rest + one_if (with_asked d true o c) ≤ 1 → due c ts + one_if (o c) ≤ 1
sent_once t x o e d n c ss p q ts s ih =
    subst (λ (us : List Token). due c us + one_if (o c) ≤ 1) (sym s.puts) (by_tests (nat_eq d c) (nat_eq c d) refl refl ih)
  where
    by_tests : (f g : Bool) → nat_eq d c ≡ f → nat_eq c d ≡ g → due c s.rest + one_if (if g then true else o c) ≤ 1
        → (if f then suc (due c s.rest) else due c s.rest) + one_if (o c) ≤ 1
    by_tests true true f g h =
        let here : c ≡ d = grind (arith, f) in
        let quiet = s.quiet in
        let none : o c ≡ false = ap o here ∙ quiet in
        let nothing : one_if (o c) ≡ 0 = ap one_if none in
        omega (arith, h, nothing)
    by_tests false false f g h = h
    by_tests true false f g h = absurd (let here : d ≡ c = grind (arith, f) in grind (arith, g, here))
    by_tests false true f g h = absurd (let here : c ≡ d = grind (arith, g) in grind (arith, f, here))

-- at most one is put at each handshake, and none where one waits
pub once : (t : Type') (x : ℕ → ℕ) (o : Asked) (n : ℕ) (fs : List Slot) (p : Asked) (q : State) (ts : List Token) → AreRequests fs
    → Fires (Share t) x o (at Rest n) fs p q ts → (c : ℕ) → due c ts + one_if (o c) ≤ 1
once t x o n [] p q ts all (same, is, none) c =
    subst (λ (us : List Token). due c us + one_if (o c) ≤ 1) (sym none) (by_flag (o c))
  where
    by_flag : (f : Bool) → 0 + one_if f ≤ 1
    by_flag true = omega arith
    by_flag false = omega arith
once t x o n (Ans e ∷ ss) p q ts all fires c = absurd all.0
once t x o n (Req e ∷ ss) p q ts all fires c =
    by_turn (turn t x o n (Req e) ss p q ts fires) (λ m a us go. once t x a m ss p q us all.1 go c)
  where
    by_turn : Turn t x o n (Req e) ss p q ts
        → ((m : ℕ) (a : Asked) (us : List Token) → Fires (Share t) x a (at Rest m) ss p q us → due c us + one_if (a c) ≤ 1)
        → due c ts + one_if (o c) ≤ 1
    by_turn (first_asks l there s) ih =
        let sent = as_sent t x o (count_of t + l) l 0 (Req e) ss p q ts s in
        sent_once t x o (count_of t + l) l 0 c ss p q ts sent (ih 0 _ sent.rest sent.go)
    by_turn (second_asks l there s) ih =
        let sent = as_sent t x o (count_of t + count_of t + l) l 1 (Req e) ss p q ts s in
        sent_once t x o (count_of t + count_of t + l) l 1 c ss p q ts sent (ih 1 _ sent.rest sent.go)
    by_turn (source_answers l there s) ih = absurd (no_answer e l s.is)
    by_turn (source_asks l there s) ih =
        let sent = as_sent t x o l (branch_side (count_of t) n + l) n (Req e) ss p q ts s in
        sent_once t x o l (branch_side (count_of t) n + l) n c ss p q ts sent (ih n _ sent.rest sent.go)
    by_turn (branch_answers l there s) ih = absurd (no_answer e (branch_side (count_of t) n + l) s.is)

pub requests_are : (p : ℕ → ℕ) (e : ℕ) (ks : List Contact) → AreRequests (pulsed p (requests e ks))
requests_are p e [] = tt
requests_are p e (k ∷ ks) = by_role k.role (requests_are p (suc e) ks)
  where
    by_role : (r : Role) → AreRequests (pulsed p (requests (suc e) ks)) → AreRequests (pulsed p (request_at r e ++ requests (suc e) ks))
    by_role Ask ih = ih
    by_role Serve ih = by_test (nat_eq (p e) 1)
      where
        by_test : (c : Bool) → AreRequests (if c then Req e ∷ pulsed p (requests (suc e) ks) else pulsed p (requests (suc e) ks))
        by_test true = (tt, ih)
        by_test false = ih
