-- The demo's texts with their numbers as digits that compute.
use Rattle.std.proofs.Common.{◌≡◌, ◌≤◌, ◌<◌, ◌∙◌, ◌+◌, ◌-◌, ◌%◌, ℕ, zero, suc, Bool, List, [], ◌∷◌, ◌++◌, nat_lt, if◌then◌else◌, refl, ap, sym, arith}
use Rattle.std.specs.Prelude.{codes, IsTrue}
use Rattle.std.specs.Str.{bytes_eq}
use Rattle.std.specs.Fmt.{decimal}
use Rattle.std.proofs.lemmas.Fmt.{decimal_digit, decimal_step}
use Rattle.std.proofs.lemmas.Slice.Eq.{bytes_eq-Decides}
use Rattle.gos_lex.specs.Lines.{Word}
use Rattle.gos_tool.specs.demo.DemoFiles.{IsLevelCount, line, source_of, level_line, level_lines, next_line, next_lines, file_lines, build_file}
use Rattle.gos_tool.specs.demo.Demo.{objects_of}

-- a test of a word
pub decides : (word other text : List ℕ) (b : Bool) → b ≡ bytes_eq word other → other ≡ text → (IsTrue b → word ≡ text) × (word ≡ text → IsTrue b)
decides word other text b is same = (
  λ holds. (bytes_eq-Decides word other).0 (sym is ∙ holds) ∙ same,
  λ e. is ∙ (bytes_eq-Decides word other).1 (e ∙ sym same),
)

-- the digits of a number up to 12
abbrev pub digits_of : ℕ → List ℕ
digits_of n = if nat_lt n 10 then (48 + n) ∷ [] else (49 ∷ (38 + n) ∷ [])

pub one_digit : (n : ℕ) → n < 10 → decimal n ≡ (48 + n) ∷ []
one_digit n small = decimal_digit n small

pub two_digits : (n : ℕ) → 10 ≤ n → n ≤ 12 → decimal n ≡ 49 ∷ (38 + n) ∷ []
two_digits n large small =
    decimal_step n large (omega (arith, small))
    ∙ (ap (λ (k : ℕ). decimal k ++ (48 + n % 10) ∷ []) (omega (arith, small)) ∙ (ap (λ (ds : List ℕ). ds ++ (48 + n % 10) ∷ []) (decimal_digit 1 (omega arith)) ∙ ap (λ (d : ℕ). 49 ∷ d ∷ []) (omega (arith, small))))

pub same_digits : (n : ℕ) → n ≤ 12 → decimal n ≡ digits_of n
same_digits zero few = one_digit 0 (omega arith)
same_digits (suc zero) few = one_digit 1 (omega arith)
same_digits (suc (suc zero)) few = one_digit 2 (omega arith)
same_digits (suc (suc (suc zero))) few = one_digit 3 (omega arith)
same_digits (suc (suc (suc (suc zero)))) few = one_digit 4 (omega arith)
same_digits (suc (suc (suc (suc (suc zero))))) few = one_digit 5 (omega arith)
same_digits (suc (suc (suc (suc (suc (suc zero)))))) few = one_digit 6 (omega arith)
same_digits (suc (suc (suc (suc (suc (suc (suc zero))))))) few = one_digit 7 (omega arith)
same_digits (suc (suc (suc (suc (suc (suc (suc (suc zero)))))))) few = one_digit 8 (omega arith)
same_digits (suc (suc (suc (suc (suc (suc (suc (suc (suc zero))))))))) few = one_digit 9 (omega arith)
same_digits (suc (suc (suc (suc (suc (suc (suc (suc (suc (suc zero)))))))))) few = two_digits 10 (omega arith) (omega arith)
same_digits (suc (suc (suc (suc (suc (suc (suc (suc (suc (suc (suc zero))))))))))) few = two_digits 11 (omega arith) (omega arith)
same_digits (suc (suc (suc (suc (suc (suc (suc (suc (suc (suc (suc (suc zero)))))))))))) few = two_digits 12 (omega arith) (omega arith)
same_digits (suc (suc (suc (suc (suc (suc (suc (suc (suc (suc (suc (suc (suc n))))))))))))) few = absurd (omega (arith, few))

-- the lines
abbrev plain_level : ℕ → List ℕ
plain_level level = (codes "inst l" ++ digits_of level) ++ (codes " " ++ (source_of level ++ ((codes " demo_l" ++ digits_of level) ++ line (codes ".obj"))))

abbrev plain_levels : ℕ → List ℕ
plain_levels zero = []
plain_levels (suc n) = plain_levels n ++ plain_level (suc n)

abbrev plain_next : ℕ → List ℕ
plain_next level = line ((codes "bind l" ++ digits_of level) ++ (codes " f l" ++ digits_of (level + 1)))

abbrev plain_nexts : ℕ → List ℕ
plain_nexts zero = []
plain_nexts (suc n) = plain_nexts n ++ plain_next (suc n)

level_plain : (n : ℕ) → n ≤ 12 → level_line n ≡ plain_level n
level_plain n few = λ i. (codes "inst l" ++ same_digits n few i) ++ (codes " " ++ (source_of n ++ ((codes " demo_l" ++ same_digits n few i) ++ line (codes ".obj"))))

levels_plain : (n : ℕ) → n ≤ 12 → level_lines n ≡ plain_levels n
levels_plain zero few = refl
levels_plain (suc n) few = λ i. levels_plain n (omega (arith, few)) i ++ level_plain (suc n) few i

next_plain : (n : ℕ) → n ≤ 11 → next_line n ≡ plain_next n
next_plain n few = λ i. line ((codes "bind l" ++ same_digits n (omega (arith, few)) i) ++ (codes " f l" ++ same_digits (n + 1) (omega (arith, few)) i))

nexts_plain : (n : ℕ) → n ≤ 11 → next_lines n ≡ plain_nexts n
nexts_plain zero few = refl
nexts_plain (suc n) few = λ i. nexts_plain n (omega (arith, few)) i ++ next_plain (suc n) few i

-- the whole
abbrev pub plain_text : ℕ → List ℕ
plain_text levels =
    ((line (codes "gosbuild 1") ++ line (codes "inst main demo_main.gos demo_main.obj")) ++ (plain_levels levels ++ line (codes "inst leaf demo_id.gos demo_leaf.obj")))
    ++ ((line (codes "bind main f l1") ++ (plain_nexts (levels - 1) ++ ((codes "bind l" ++ digits_of levels) ++ line (codes " f leaf")))) ++ file_lines)

pub text_plain : (levels : ℕ) → IsLevelCount levels → (build_file levels).text ≡ plain_text levels
text_plain levels count =
    let few = count.1 in
    λ i.
    ((line (codes "gosbuild 1") ++ line (codes "inst main demo_main.gos demo_main.obj")) ++ (levels_plain levels few i ++ line (codes "inst leaf demo_id.gos demo_leaf.obj")))
    ++ ((line (codes "bind main f l1") ++ (nexts_plain (levels - 1) (omega (arith, few)) i ++ ((codes "bind l" ++ same_digits levels few i) ++ line (codes " f leaf")))) ++ file_lines)

-- the objects of the levels
abbrev plain_object : ℕ → Word
plain_object level = (codes "demo_l" ++ digits_of level) ++ codes ".obj"

abbrev pub plain_objects : ℕ → List Word
plain_objects zero = []
plain_objects (suc n) = plain_objects n ++ (plain_object (suc n) ∷ [])

pub objects_plain : (n : ℕ) → n ≤ 12 → objects_of n ≡ plain_objects n
objects_plain zero few = refl
objects_plain (suc n) few = λ i. objects_plain n (omega (arith, few)) i ++ (((codes "demo_l" ++ same_digits (suc n) few i) ++ codes ".obj") ∷ [])
