-- What drives a cell's net is known by its text.
use Rattle.std.proofs.Common.{◌≡◌, inl, inr, ◌⊎◌, ℕ, ◌^◌, ◌<◌, true, false, List, [], ◌∷◌, ◌++◌, get_or, refl, sym, ◌∙◌, ap, subst, arith, append_assoc, codes}
use Rattle.std.specs.Char.{is_ascii_digit}
use Rattle.std.specs.Fmt.{decimal}
use Rattle.gos_lex.specs.Bytes.{begins_name}
use Rattle.gos_netlist.specs.Nets.{Function, Input, Const, Not, And, Or, Xor, Mux, Add, Sub, Eq, Less, Gate, Reg}
use Rattle.gos_verilog.specs.Lines.{expression}
pub use Rattle.gos_verilog.specs.inner.Stages.{IsNetName}
use Rattle.gos_verilog.proofs.CodeLemmas.{digits_lack, same_before, number_code, digit_first, name_lacks, name_code}

-- numbers of a function, each of 64 bits
abbrev pub IsSmall : ℕ → Type 0
IsSmall n = n < 2 ^ 64

abbrev pub AreSmall : Function → Type 0
AreSmall Input = Unit {0}
AreSmall (Const k) = IsSmall k
AreSmall (Not a) = IsSmall a
AreSmall (And a b) = IsSmall a × IsSmall b
AreSmall (Or a b) = IsSmall a × IsSmall b
AreSmall (Xor a b) = IsSmall a × IsSmall b
AreSmall (Mux s a b) = IsSmall s × IsSmall a × IsSmall b
AreSmall (Add a b) = IsSmall a × IsSmall b
AreSmall (Sub a b) = IsSmall a × IsSmall b
AreSmall (Eq a b) = IsSmall a × IsSmall b
AreSmall (Less a b) = IsSmall a × IsSmall b
AreSmall (Gate s a) = IsSmall s × IsSmall a
AreSmall (Reg a) = IsSmall a

-- the sort of an expression, by its first byte: a name, a number, `~`, or a net and what follows
pub data Sort : Type 0 where
  Named Number Turned Paired Clocked : Sort

abbrev pub sort_of : Function → Sort
sort_of Input = Named
sort_of (Const k) = Number
sort_of (Not a) = Turned
sort_of (And a b) = Paired
sort_of (Or a b) = Paired
sort_of (Xor a b) = Paired
sort_of (Mux s a b) = Paired
sort_of (Add a b) = Paired
sort_of (Sub a b) = Paired
sort_of (Eq a b) = Paired
sort_of (Less a b) = Paired
sort_of (Gate s a) = Paired
sort_of (Reg a) = Clocked

-- the first net of a pair, and what stands behind it and a blank, before the end of the line
abbrev first_net : Function → ℕ
first_net (And a b) = a
first_net (Or a b) = a
first_net (Xor a b) = a
first_net (Mux s a b) = s
first_net (Add a b) = a
first_net (Sub a b) = a
first_net (Eq a b) = a
first_net (Less a b) = a
first_net (Gate s a) = s
first_net f = 0

abbrev behind : ℕ → Function → List ℕ → List ℕ
behind w (And a b) x = 38 ∷ 32 ∷ 110 ∷ (decimal b ++ x)
behind w (Or a b) x = 124 ∷ 32 ∷ 110 ∷ (decimal b ++ x)
behind w (Xor a b) x = 94 ∷ 32 ∷ 110 ∷ (decimal b ++ x)
behind w (Mux s a b) x = 63 ∷ 32 ∷ 110 ∷ (decimal a ++ 32 ∷ 58 ∷ 32 ∷ 110 ∷ (decimal b ++ x))
behind w (Add a b) x = 43 ∷ 32 ∷ 110 ∷ (decimal b ++ x)
behind w (Sub a b) x = 45 ∷ 32 ∷ 110 ∷ (decimal b ++ x)
behind w (Eq a b) x = 61 ∷ 61 ∷ 32 ∷ 110 ∷ (decimal b ++ x)
behind w (Less a b) x = 60 ∷ 32 ∷ 110 ∷ (decimal b ++ x)
behind w (Gate s a) x = 63 ∷ 32 ∷ 110 ∷ (decimal a ++ 32 ∷ 58 ∷ 32 ∷ (decimal w ++ 39 ∷ 100 ∷ (decimal 0 ++ x)))
behind w f x = x

two : (a b word x : List ℕ) → ((((110 ∷ a) ++ 32 ∷ []) ++ word) ++ 32 ∷ []) ++ (110 ∷ b) ++ x ≡ 110 ∷ (a ++ 32 ∷ (word ++ 32 ∷ 110 ∷ (b ++ x)))
two a b word x =
    append_assoc ((((110 ∷ a) ++ 32 ∷ []) ++ word) ++ 32 ∷ []) (110 ∷ b) x
    ∙ (append_assoc (((110 ∷ a) ++ 32 ∷ []) ++ word) (32 ∷ []) (110 ∷ (b ++ x))
    ∙ (append_assoc ((110 ∷ a) ++ 32 ∷ []) word (32 ∷ 110 ∷ (b ++ x)) ∙ append_assoc (110 ∷ a) (32 ∷ []) (word ++ 32 ∷ 110 ∷ (b ++ x))))

choice : (s a last x : List ℕ) → ((((110 ∷ s) ++ 32 ∷ 63 ∷ 32 ∷ []) ++ (110 ∷ a)) ++ 32 ∷ 58 ∷ 32 ∷ []) ++ last ++ x ≡ 110 ∷ (s ++ 32 ∷ 63 ∷ 32 ∷ 110 ∷ (a ++ 32 ∷ 58 ∷ 32 ∷ (last ++ x)))
choice s a last x =
    append_assoc ((((110 ∷ s) ++ 32 ∷ 63 ∷ 32 ∷ []) ++ (110 ∷ a)) ++ 32 ∷ 58 ∷ 32 ∷ []) last x
    ∙ (append_assoc (((110 ∷ s) ++ 32 ∷ 63 ∷ 32 ∷ []) ++ (110 ∷ a)) (32 ∷ 58 ∷ 32 ∷ []) (last ++ x)
    ∙ (append_assoc ((110 ∷ s) ++ 32 ∷ 63 ∷ 32 ∷ []) (110 ∷ a) (32 ∷ 58 ∷ 32 ∷ (last ++ x))
    ∙ append_assoc (110 ∷ s) (32 ∷ 63 ∷ 32 ∷ []) (110 ∷ (a ++ 32 ∷ 58 ∷ 32 ∷ (last ++ x)))))

-- the text of a pair, by its parts
pair_text : (w : ℕ) (source x : List ℕ) (f : Function) → sort_of f ≡ Paired → expression w source f ++ x ≡ 110 ∷ (decimal (first_net f) ++ 32 ∷ behind w f x)
pair_text w source x (And a b) is = two (decimal a) (decimal b) (codes "&") x
pair_text w source x (Or a b) is = two (decimal a) (decimal b) (codes "|") x
pair_text w source x (Xor a b) is = two (decimal a) (decimal b) (codes "^") x
pair_text w source x (Mux s a b) is = choice (decimal s) (decimal a) (110 ∷ decimal b) x
pair_text w source x (Add a b) is = two (decimal a) (decimal b) (codes "+") x
pair_text w source x (Sub a b) is = two (decimal a) (decimal b) (codes "-") x
pair_text w source x (Eq a b) is = two (decimal a) (decimal b) (codes "==") x
pair_text w source x (Less a b) is = two (decimal a) (decimal b) (codes "<") x
pair_text w source x (Gate s a) is =
    choice (decimal s) (decimal a) (decimal w ++ codes "'d" ++ decimal 0) x
    ∙ ap (λ more. 110 ∷ (decimal s ++ 32 ∷ 63 ∷ 32 ∷ 110 ∷ (decimal a ++ 32 ∷ 58 ∷ 32 ∷ more)))
    (append_assoc (decimal w ++ 39 ∷ 100 ∷ []) (decimal 0) x ∙ append_assoc (decimal w) (39 ∷ 100 ∷ []) (decimal 0 ++ x))
pair_text w source x f is = absurd (cc is)

-- what stands behind the first net tells the function
one_more : (a b : ℕ) (x y : List ℕ) → IsSmall a → IsSmall b → decimal a ++ 59 ∷ x ≡ decimal b ++ 59 ∷ y → (a ≡ b) × (x ≡ y)
one_more a b x y small_a small_b same = let known = number_code a b 59 59 x y small_a small_b refl refl same in (known.0, cc (known.1))

behind_code : (w : ℕ) (f g : Function) (x y : List ℕ) → IsSmall w → AreSmall f → AreSmall g → sort_of f ≡ Paired → sort_of g ≡ Paired → first_net f ≡ first_net g
    → behind w f (59 ∷ x) ≡ behind w g (59 ∷ y) → (f ≡ g) × (x ≡ y)
behind_code w (And a b) (And c d) x y small is_f is_g p q first same = let known = one_more b d x y is_f.1 is_g.1 (cc same) in ((λ i. And (first i) (known.0 i)), known.1)
behind_code w (Or a b) (Or c d) x y small is_f is_g p q first same = let known = one_more b d x y is_f.1 is_g.1 (cc same) in ((λ i. Or (first i) (known.0 i)), known.1)
behind_code w (Xor a b) (Xor c d) x y small is_f is_g p q first same = let known = one_more b d x y is_f.1 is_g.1 (cc same) in ((λ i. Xor (first i) (known.0 i)), known.1)
behind_code w (Add a b) (Add c d) x y small is_f is_g p q first same = let known = one_more b d x y is_f.1 is_g.1 (cc same) in ((λ i. Add (first i) (known.0 i)), known.1)
behind_code w (Sub a b) (Sub c d) x y small is_f is_g p q first same = let known = one_more b d x y is_f.1 is_g.1 (cc same) in ((λ i. Sub (first i) (known.0 i)), known.1)
behind_code w (Eq a b) (Eq c d) x y small is_f is_g p q first same = let known = one_more b d x y is_f.1 is_g.1 (cc same) in ((λ i. Eq (first i) (known.0 i)), known.1)
behind_code w (Less a b) (Less c d) x y small is_f is_g p q first same = let known = one_more b d x y is_f.1 is_g.1 (cc same) in ((λ i. Less (first i) (known.0 i)), known.1)
behind_code w (Mux s a b) (Mux t c d) x y small is_f is_g p q first same =
    let rest : decimal a ++ 32 ∷ 58 ∷ 32 ∷ 110 ∷ (decimal b ++ 59 ∷ x) ≡ decimal c ++ 32 ∷ 58 ∷ 32 ∷ 110 ∷ (decimal d ++ 59 ∷ y) = cc same in
    let one = number_code a c 32 32 (58 ∷ 32 ∷ 110 ∷ (decimal b ++ 59 ∷ x)) (58 ∷ 32 ∷ 110 ∷ (decimal d ++ 59 ∷ y)) is_f.1 is_g.1 refl refl rest in
    let other = one_more b d x y is_f.2 is_g.2 (cc (one.1)) in
    ((λ i. Mux (first i) (one.0 i) (other.0 i)), other.1)
behind_code w (Gate s a) (Gate t c) x y small is_f is_g p q first same =
    let rest : decimal a ++ 32 ∷ 58 ∷ 32 ∷ (decimal w ++ 39 ∷ 100 ∷ (decimal 0 ++ 59 ∷ x)) ≡ decimal c ++ 32 ∷ 58 ∷ 32 ∷ (decimal w ++ 39 ∷ 100 ∷ (decimal 0 ++ 59 ∷ y)) = cc same in
    let one = number_code a c 32 32 (58 ∷ 32 ∷ (decimal w ++ 39 ∷ 100 ∷ (decimal 0 ++ 59 ∷ x))) (58 ∷ 32 ∷ (decimal w ++ 39 ∷ 100 ∷ (decimal 0 ++ 59 ∷ y))) is_f.1 is_g.1 refl refl rest in
    let wide : decimal w ++ 39 ∷ 100 ∷ (decimal 0 ++ 59 ∷ x) ≡ decimal w ++ 39 ∷ 100 ∷ (decimal 0 ++ 59 ∷ y) = cc (one.1) in
    let two = number_code w w 39 39 (100 ∷ (decimal 0 ++ 59 ∷ x)) (100 ∷ (decimal 0 ++ 59 ∷ y)) small small refl refl wide in
    let three = one_more 0 0 x y (omega arith) (omega arith) (cc (two.1)) in
    ((λ i. Gate (first i) (one.0 i)), three.1)
behind_code w (Mux s a b) (Gate t c) x y small is_f is_g p q first same =
    let rest : decimal a ++ 32 ∷ 58 ∷ 32 ∷ 110 ∷ (decimal b ++ 59 ∷ x) ≡ decimal c ++ 32 ∷ 58 ∷ 32 ∷ (decimal w ++ 39 ∷ 100 ∷ (decimal 0 ++ 59 ∷ y)) = cc same in
    let one = number_code a c 32 32 (58 ∷ 32 ∷ 110 ∷ (decimal b ++ 59 ∷ x)) (58 ∷ 32 ∷ (decimal w ++ 39 ∷ 100 ∷ (decimal 0 ++ 59 ∷ y))) is_f.1 is_g.1 refl refl rest in
    let wide : decimal w ++ 39 ∷ 100 ∷ (decimal 0 ++ 59 ∷ y) ≡ 110 ∷ (decimal b ++ 59 ∷ x) = cc (one.1) in
    absurd (digit_first w 110 (decimal b ++ 59 ∷ x) (39 ∷ 100 ∷ (decimal 0 ++ 59 ∷ y)) small refl wide)
behind_code w (Gate s a) (Mux t c d) x y small is_f is_g p q first same =
    let rest : decimal a ++ 32 ∷ 58 ∷ 32 ∷ (decimal w ++ 39 ∷ 100 ∷ (decimal 0 ++ 59 ∷ x)) ≡ decimal c ++ 32 ∷ 58 ∷ 32 ∷ 110 ∷ (decimal d ++ 59 ∷ y) = cc same in
    let one = number_code a c 32 32 (58 ∷ 32 ∷ (decimal w ++ 39 ∷ 100 ∷ (decimal 0 ++ 59 ∷ x))) (58 ∷ 32 ∷ 110 ∷ (decimal d ++ 59 ∷ y)) is_f.1 is_g.1 refl refl rest in
    let wide : decimal w ++ 39 ∷ 100 ∷ (decimal 0 ++ 59 ∷ x) ≡ 110 ∷ (decimal d ++ 59 ∷ y) = cc (one.1) in
    absurd (digit_first w 110 (decimal d ++ 59 ∷ y) (39 ∷ 100 ∷ (decimal 0 ++ 59 ∷ x)) small refl wide)
behind_code w f g x y small is_f is_g p q first same = let byte = ap (λ (bytes : List ℕ). get_or bytes 0 0) same in absurd (first_of (omega (arith, byte), cc (p, q)))

no_digit_begins : (b : ℕ) → begins_name b ≡ true → is_ascii_digit b ≡ false
no_digit_begins b begins = grind (arith, begins)

input_of : (f : Function) → sort_of f ≡ Named → f ≡ Input
input_of Input is = refl
input_of f is = absurd (cc is)

const_of : (f : Function) → sort_of f ≡ Number → (k : ℕ) × (f ≡ Const k)
const_of (Const k) is = (k, refl)
const_of f is = absurd (cc is)

not_of : (f : Function) → sort_of f ≡ Turned → (a : ℕ) × (f ≡ Not a)
not_of (Not a) is = (a, refl)
not_of f is = absurd (cc is)

first_small : (f : Function) → AreSmall f → IsSmall (first_net f)
first_small (And a b) is = is.0
first_small (Or a b) is = is.0
first_small (Xor a b) is = is.0
first_small (Mux s a b) is = is.0
first_small (Add a b) is = is.0
first_small (Sub a b) is = is.0
first_small (Eq a b) is = is.0
first_small (Less a b) is = is.0
first_small (Gate s a) is = is.0
first_small Input is = omega arith
first_small (Const k) is = omega arith
first_small (Not a) is = omega arith
first_small (Reg a) is = omega arith

-- a name is no expression of another sort, before the end of a line
apart_named : (w : ℕ) (s : List ℕ) (g : Function) (t x y : List ℕ) → IsSmall w → IsNetName s → AreSmall g → (sort_of g ≡ Number) ⊎ ((sort_of g ≡ Turned) ⊎ (sort_of g ≡ Paired))
    → s ++ 59 ∷ x ≡ expression w t g ++ 59 ∷ y → ⊥
apart_named w s g t x y small name is_g (inl number) same =
    let known = const_of g number in
    let text : expression w t g ++ 59 ∷ y ≡ decimal w ++ 39 ∷ 100 ∷ (decimal known.0 ++ 59 ∷ y) =
    ap (λ (f : Function). expression w t f ++ 59 ∷ y) known.1 ∙ (append_assoc (decimal w ++ 39 ∷ 100 ∷ []) (decimal known.0) (59 ∷ y) ∙ append_assoc (decimal w) (39 ∷ 100 ∷ []) (decimal known.0 ++ 59 ∷ y)) in
    digit_first w name.first (name.rest ++ 59 ∷ x) (39 ∷ 100 ∷ (decimal known.0 ++ 59 ∷ y)) small (no_digit_begins name.first name.begins)
    (sym text ∙ (sym same ∙ ap (λ bytes. bytes ++ 59 ∷ x) name.is))
apart_named w s g t x y small name is_g (inr (inl turned)) same =
    let known = not_of g turned in
    let whole : name.first ∷ (name.rest ++ 59 ∷ x) ≡ 126 ∷ ((110 ∷ decimal known.0) ++ 59 ∷ y) =
    ap (λ bytes. bytes ++ 59 ∷ x) (sym name.is) ∙ (same ∙ ap (λ (f : Function). expression w t f ++ 59 ∷ y) known.1) in
    let byte : name.first ≡ 126 = ap (λ (bytes : List ℕ). get_or bytes 0 0) whole in
    absurd (let both : false ≡ true = ap begins_name (sym byte) ∙ name.begins in cc both)
apart_named w s g t x y small name is_g (inr (inr paired)) same =
    let known = same_before s (110 ∷ decimal (first_net g)) x (behind w g (59 ∷ y)) 59 32 (λ front more is. name_lacks 32 front more s name.bytes refl is) (lacks (first_net g) (first_small g is_g)) (same ∙ pair_text w t (59 ∷ y) g paired) in
    let byte : 59 ≡ 32 = ap (λ (bytes : List ℕ). get_or bytes 0 0) known.1 in
    omega (arith, byte)
  where
    lacks : (a : ℕ) → IsSmall a → (front more : List ℕ) → 110 ∷ decimal a ≡ front ++ 59 ∷ more → ⊥
    lacks a small_a [] more is = let byte : 110 ≡ 59 = ap (λ (bytes : List ℕ). get_or bytes 0 0) is in omega (arith, byte)
    lacks a small_a (b ∷ front) more is = digits_lack a 59 front more small_a refl (cc is)

-- nor is a constant one of a third sort
apart_number : (w : ℕ) (s t : List ℕ) (f g : Function) (x y : List ℕ) → IsSmall w → sort_of f ≡ Number → (sort_of g ≡ Turned) ⊎ (sort_of g ≡ Paired)
    → expression w s f ++ 59 ∷ x ≡ expression w t g ++ 59 ∷ y → ⊥
apart_number w s t f g x y small number other same = by other
  where
    text : (k : ℕ) → f ≡ Const k → expression w s f ++ 59 ∷ x ≡ decimal w ++ 39 ∷ 100 ∷ (decimal k ++ 59 ∷ x)
    text k is =
        ap (λ (h : Function). expression w s h ++ 59 ∷ x) is ∙ (append_assoc (decimal w ++ 39 ∷ 100 ∷ []) (decimal k) (59 ∷ x) ∙ append_assoc (decimal w) (39 ∷ 100 ∷ []) (decimal k ++ 59 ∷ x))

    by : (sort_of g ≡ Turned) ⊎ (sort_of g ≡ Paired) → ⊥
    by (inl turned) =
        let k = const_of f number in
        let a = not_of g turned in
        digit_first w 126 ((110 ∷ decimal a.0) ++ 59 ∷ y) (39 ∷ 100 ∷ (decimal k.0 ++ 59 ∷ x)) small refl
        (sym (text k.0 k.1) ∙ (same ∙ ap (λ (h : Function). expression w t h ++ 59 ∷ y) a.1))
    by (inr paired) =
        let k = const_of f number in
        digit_first w 110 (decimal (first_net g) ++ 32 ∷ behind w g (59 ∷ y)) (39 ∷ 100 ∷ (decimal k.0 ++ 59 ∷ x)) small refl
        (sym (text k.0 k.1) ∙ (same ∙ pair_text w t (59 ∷ y) g paired))

-- nor is one with its bits turned a pair
apart_turned : (w : ℕ) (s t : List ℕ) (f g : Function) (x y : List ℕ) → sort_of f ≡ Turned → sort_of g ≡ Paired → expression w s f ++ 59 ∷ x ≡ expression w t g ++ 59 ∷ y → ⊥
apart_turned w s t f g x y turned paired same =
    let a = not_of f turned in
    let whole : 126 ∷ ((110 ∷ decimal a.0) ++ 59 ∷ x) ≡ 110 ∷ (decimal (first_net g) ++ 32 ∷ behind w g (59 ∷ y)) =
    ap (λ (h : Function). expression w s h ++ 59 ∷ x) (sym a.1) ∙ (same ∙ pair_text w t (59 ∷ y) g paired) in
    let byte = ap (λ (bytes : List ℕ). get_or bytes 0 0) whole in
    omega (arith, byte)

-- an expression before the end of a line is known by its text, and an Input cell's by the name that it reads
pub expression_code : (w : ℕ) (s t : List ℕ) (f g : Function) (x y : List ℕ) → IsSmall w → AreSmall f → AreSmall g → (f ≡ Input → IsNetName s) → (g ≡ Input → IsNetName t)
    → (sort_of f ≡ Clocked → ⊥) → (sort_of g ≡ Clocked → ⊥) → expression w s f ++ 59 ∷ x ≡ expression w t g ++ 59 ∷ y
    → (f ≡ g) × (f ≡ Input → s ≡ t) × (x ≡ y)
expression_code w s t f g x y small is_f is_g name_f name_g wire_f wire_g same = by (sort_of f) (sort_of g) refl refl
  where
    Known : Type 0
    Known = (f ≡ g) × (f ≡ Input → s ≡ t) × (x ≡ y)

    named_text : (u : List ℕ) (h : Function) (z : List ℕ) → h ≡ Input → expression w u h ++ 59 ∷ z ≡ u ++ 59 ∷ z
    named_text u h z is = ap (λ (k : Function). expression w u k ++ 59 ∷ z) is

    const_text : (u : List ℕ) (h : Function) (z : List ℕ) (k : ℕ) → h ≡ Const k → expression w u h ++ 59 ∷ z ≡ decimal w ++ 39 ∷ 100 ∷ (decimal k ++ 59 ∷ z)
    const_text u h z k is =
        ap (λ (f : Function). expression w u f ++ 59 ∷ z) is ∙ (append_assoc (decimal w ++ 39 ∷ 100 ∷ []) (decimal k) (59 ∷ z) ∙ append_assoc (decimal w) (39 ∷ 100 ∷ []) (decimal k ++ 59 ∷ z))

    by : (p q : Sort) → sort_of f ≡ p → sort_of g ≡ q → Known
    by Clocked q is_p is_q = absurd (wire_f is_p)
    by Named Clocked is_p is_q = absurd (wire_g is_q)
    by Number Clocked is_p is_q = absurd (wire_g is_q)
    by Turned Clocked is_p is_q = absurd (wire_g is_q)
    by Paired Clocked is_p is_q = absurd (wire_g is_q)
    by Named Named is_p is_q =
        let in_f = input_of f is_p in
        let in_g = input_of g is_q in
        let known = name_code s t 59 59 x y (name_f in_f).bytes (name_g in_g).bytes refl refl (sym (named_text s f x in_f) ∙ (same ∙ named_text t g y in_g)) in
        (in_f ∙ sym in_g, (λ _. known.0), cc (known.1))
    by Named Number is_p is_q = let in_f = input_of f is_p in absurd (apart_named w s g t x y small (name_f in_f) is_g (inl is_q) (sym (named_text s f x in_f) ∙ same))
    by Named Turned is_p is_q = let in_f = input_of f is_p in absurd (apart_named w s g t x y small (name_f in_f) is_g (inr (inl is_q)) (sym (named_text s f x in_f) ∙ same))
    by Named Paired is_p is_q = let in_f = input_of f is_p in absurd (apart_named w s g t x y small (name_f in_f) is_g (inr (inr is_q)) (sym (named_text s f x in_f) ∙ same))
    by Number Named is_p is_q = let in_g = input_of g is_q in absurd (apart_named w t f s y x small (name_g in_g) is_f (inl is_p) (sym (named_text t g y in_g) ∙ sym same))
    by Turned Named is_p is_q = let in_g = input_of g is_q in absurd (apart_named w t f s y x small (name_g in_g) is_f (inr (inl is_p)) (sym (named_text t g y in_g) ∙ sym same))
    by Paired Named is_p is_q = let in_g = input_of g is_q in absurd (apart_named w t f s y x small (name_g in_g) is_f (inr (inr is_p)) (sym (named_text t g y in_g) ∙ sym same))
    by Number Turned is_p is_q = absurd (apart_number w s t f g x y small is_p (inl is_q) same)
    by Number Paired is_p is_q = absurd (apart_number w s t f g x y small is_p (inr is_q) same)
    by Turned Number is_p is_q = absurd (apart_number w t s g f y x small is_q (inl is_p) (sym same))
    by Paired Number is_p is_q = absurd (apart_number w t s g f y x small is_q (inr is_p) (sym same))
    by Turned Paired is_p is_q = absurd (apart_turned w s t f g x y is_p is_q same)
    by Paired Turned is_p is_q = absurd (apart_turned w t s g f y x is_q is_p (sym same))
    by Number Number is_p is_q =
        let a = const_of f is_p in
        let b = const_of g is_q in
        let small_a : AreSmall (Const a.0) = subst AreSmall a.1 is_f in
        let small_b : AreSmall (Const b.0) = subst AreSmall b.1 is_g in
        let wide : decimal w ++ 39 ∷ 100 ∷ (decimal a.0 ++ 59 ∷ x) ≡ decimal w ++ 39 ∷ 100 ∷ (decimal b.0 ++ 59 ∷ y) =
        sym (const_text s f x a.0 a.1) ∙ (same ∙ const_text t g y b.0 b.1) in
        let one = number_code w w 39 39 (100 ∷ (decimal a.0 ++ 59 ∷ x)) (100 ∷ (decimal b.0 ++ 59 ∷ y)) small small refl refl wide in
        let two = one_more a.0 b.0 x y small_a small_b (cc (one.1)) in
        (a.1 ∙ (ap Const two.0 ∙ sym b.1), (λ is. absurd (let both : Const a.0 ≡ Input = sym a.1 ∙ is in cc both)), two.1)
    by Turned Turned is_p is_q =
        let a = not_of f is_p in
        let b = not_of g is_q in
        let small_a : AreSmall (Not a.0) = subst AreSmall a.1 is_f in
        let small_b : AreSmall (Not b.0) = subst AreSmall b.1 is_g in
        let whole : 126 ∷ 110 ∷ (decimal a.0 ++ 59 ∷ x) ≡ 126 ∷ 110 ∷ (decimal b.0 ++ 59 ∷ y) =
        ap (λ (k : Function). expression w s k ++ 59 ∷ x) (sym a.1) ∙ (same ∙ ap (λ (k : Function). expression w t k ++ 59 ∷ y) b.1) in
        let two = one_more a.0 b.0 x y small_a small_b (cc whole) in
        (a.1 ∙ (ap Not two.0 ∙ sym b.1), (λ is. absurd (let both : Not a.0 ≡ Input = sym a.1 ∙ is in cc both)), two.1)
    by Paired Paired is_p is_q =
        let whole = sym (pair_text w s (59 ∷ x) f is_p) ∙ (same ∙ pair_text w t (59 ∷ y) g is_q) in
        let one = number_code (first_net f) (first_net g) 32 32 (behind w f (59 ∷ x)) (behind w g (59 ∷ y)) (first_small f is_f) (first_small g is_g) refl refl (cc whole) in
        let two = behind_code w f g x y small is_f is_g is_p is_q one.0 (cc (one.1)) in
        (two.0, (λ is. absurd (let both : Paired ≡ Named = sym is_p ∙ ap sort_of is in cc both)), two.1)
