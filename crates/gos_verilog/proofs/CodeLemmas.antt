-- Numbers and names before a byte that they can't have: a text begins with one in one way.
use Rattle.std.proofs.Common.{◌≡◌, inl, inr, ℕ, ◌-◌, ◌^◌, ◌<◌, true, false, List, [], ◌∷◌, ◌++◌, length, refl, sym, ◌∙◌, ap, arith, append_assoc, append-nil}
use Rattle.std.specs.Char.{is_ascii_digit}
use Rattle.std.specs.Fmt.{decimal}
use Rattle.std.specs.List.{list_all}
use Rattle.std.proofs.lemmas.Fmt.{decimal_injective, decimal_nonempty}
use Rattle.gos_lex.specs.Bytes.{continues_name}
use Rattle.gos_lex.specs.Items.{Begins}
use Rattle.gos_lex.specs.Decimals.{IsDecimalIn}
use Rattle.gos_lex.proofs.DecimalLemmas.{digit_within}
use Rattle.gos_lex.proofs.NameTextLemmas.{none_inside}
use Rattle.gos_lex.proofs.SequenceLemmas.{fronts}
pub use Rattle.gos_verilog.specs.inner.Stages.{AreNameBytes}

-- the digits of a number have no other byte
pub digits_lack : (n c : ℕ) (front more : List ℕ) → n < 2 ^ 64 → is_ascii_digit c ≡ false → decimal n ≡ front ++ c ∷ more → ⊥
digits_lack n c front more small other is =
    let begins : Begins (IsDecimalIn 0 (2 ^ 64 - 1)) (front ++ c ∷ []) = (more, (n, omega arith, omega (arith, small), append_assoc front (c ∷ []) more ∙ sym is)) in
    let digit : is_ascii_digit c ≡ true = digit_within front c begins in
    absurd (let both : true ≡ false = sym digit ∙ other in cc both)

-- two fronts of one text that end before bytes that neither has are the same
pub same_before : (a b x y : List ℕ) (c d : ℕ) → ((front more : List ℕ) → a ≡ front ++ d ∷ more → ⊥) → ((front more : List ℕ) → b ≡ front ++ c ∷ more → ⊥)
    → a ++ c ∷ x ≡ b ++ d ∷ y → (a ≡ b) × (c ∷ x ≡ d ∷ y)
same_before a b x y c d lacks other same = elim (fronts a (c ∷ x) b (d ∷ y) same) [ inl longer ↦ one longer.0 longer.1 longer.2 | inr longer ↦ two longer.0 longer.1 longer.2 ]
  where
    one : (more : List ℕ) → a ≡ b ++ more → more ++ c ∷ x ≡ d ∷ y → (a ≡ b) × (c ∷ x ≡ d ∷ y)
    one [] is rest = (is ∙ append-nil b, rest)
    one (e ∷ more) is rest = let byte : e ≡ d = cc rest in absurd (lacks b more (is ∙ ap (λ f. b ++ f ∷ more) byte))

    two : (more : List ℕ) → b ≡ a ++ more → more ++ d ∷ y ≡ c ∷ x → (a ≡ b) × (c ∷ x ≡ d ∷ y)
    two [] is rest = (sym (is ∙ append-nil a), sym rest)
    two (e ∷ more) is rest = let byte : e ≡ c = cc rest in absurd (other a more (is ∙ ap (λ f. a ++ f ∷ more) byte))

-- numbers before bytes that are no digits
pub number_code : (m n c d : ℕ) (x y : List ℕ) → m < 2 ^ 64 → n < 2 ^ 64 → is_ascii_digit c ≡ false → is_ascii_digit d ≡ false
    → decimal m ++ c ∷ x ≡ decimal n ++ d ∷ y → (m ≡ n) × (c ∷ x ≡ d ∷ y)
number_code m n c d x y small_m small_n no_c no_d same =
    let known = same_before (decimal m) (decimal n) x y c d (λ front more is. digits_lack m d front more small_m no_d is) (λ front more is. digits_lack n c front more small_n no_c is) same in
    (decimal_injective m n small_m small_n known.0, known.1)

-- a number begins with a digit
pub digit_first : (n c : ℕ) (x y : List ℕ) → n < 2 ^ 64 → is_ascii_digit c ≡ false → decimal n ++ y ≡ c ∷ x → ⊥
digit_first n c x y small other same = by (decimal n) refl same
  where
    by : (digits : List ℕ) → decimal n ≡ digits → digits ++ y ≡ c ∷ x → ⊥
    by [] is same = omega (arith, decimal_nonempty n small, ap length is)
    by (d ∷ digits) is same = let byte : d ≡ c = cc same in digits_lack n c [] digits small other (is ∙ ap (λ e. e ∷ digits) byte)

pub name_lacks : (c : ℕ) (front more name : List ℕ) → AreNameBytes name → continues_name c ≡ false → name ≡ front ++ c ∷ more → ⊥
name_lacks c front more name bytes other is = none_inside c other front more (ap (list_all continues_name) (sym is) ∙ bytes)

-- names before bytes that no name has
pub name_code : (a b : List ℕ) (c d : ℕ) (x y : List ℕ) → AreNameBytes a → AreNameBytes b → continues_name c ≡ false → continues_name d ≡ false
    → a ++ c ∷ x ≡ b ++ d ∷ y → (a ≡ b) × (c ∷ x ≡ d ∷ y)
name_code a b c d x y is_a is_b no_c no_d same =
    same_before a b x y c d (λ front more is. name_lacks d front more a is_a no_d is) (λ front more is. name_lacks c front more b is_b no_c is) same
