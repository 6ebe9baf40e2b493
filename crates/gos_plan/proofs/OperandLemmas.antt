-- What stands behind the word of a type: its width, or its two sides.
use Rattle.std.proofs.Common.{◌≡◌, inl, inr, ℕ, ◌+◌, ◌≤◌, List, [], ◌∷◌, refl, sym, ◌∙◌, ap, subst, arith}
use Rattle.gos_types.specs.Types.{Type', Com, Exp, Var, Pair, Fun}
use Rattle.gos_plan.specs.declared.fault.ObjectFault.{ObjectFault}
use Rattle.gos_plan.specs.declared.word.TypeWord.{TypeWord}
use Rattle.gos_plan.specs.declared.word.TypeWord.TheVariants as types
use Rattle.gos_plan.specs.declared.format.Format.{Format}
use Rattle.gos_plan.specs.Formats.{HasWidthsIn}
use Rattle.gos_plan.specs.TextItems.{Item, Fails, both, exactly}
use Rattle.gos_plan.specs.ObjectItems.{shakes, word_of_type, typed, forks, sized_by, type_operands_text, type_operands}
use Rattle.gos_plan.proofs.TextLemmas.{Via, via_fails}
use Rattle.gos_plan.proofs.FormatLemmas.{greatest_is}
use Rattle.gos_plan.proofs.TypeLemmas.{shakes_pair, shakes_fun, shakes_some}

-- the width of a type that has one, and its two sides
abbrev width_of : Type' → ℕ
width_of Com = 0
width_of (Exp w) = w
width_of (Var w) = w
width_of (Pair a b) = 0
width_of (Fun a b) = 0

abbrev left_of : Type' → Type'
left_of (Pair a b) = a
left_of (Fun a b) = a
left_of t = t

abbrev right_of : Type' → Type'
right_of (Pair a b) = b
right_of (Fun a b) = b
right_of t = t

-- the type with this word and these operands
abbrev rebuilt : TypeWord → ℕ → Type' → Type' → Type'
rebuilt types.Com w a b = Com
rebuilt types.Exp w a b = Exp w
rebuilt types.Var w a b = Var w
rebuilt types.Pair w a b = Pair a b
rebuilt types.Fun w a b = Fun a b

rebuilt_own : (t : Type') → t ≡ rebuilt (word_of_type t) (width_of t) (left_of t) (right_of t)
rebuilt_own Com = refl
rebuilt_own (Exp w) = refl
rebuilt_own (Var w) = refl
rebuilt_own (Pair a b) = refl
rebuilt_own (Fun a b) = refl

is_of : (word : TypeWord) (t : Type') → word_of_type t ≡ word → t ≡ rebuilt word (width_of t) (left_of t) (right_of t)
is_of word t same = rebuilt_own t ∙ ap (λ (u : TypeWord). rebuilt u (width_of t) (left_of t) (right_of t)) same

pub com_via : (format : Format) (end before : ℕ) → Via (type_operands format end before types.Com) (exactly (end ∷ []))
com_via format end before =
    record {
      into = λ t. tt;
      from = λ u. Com;
      text = λ t is. ap (type_operands_text end) (is_of types.Com t is.1);
      is = λ t is. tt;
      keeps = λ t is keeps. tt;
      back = λ t is. sym (is_of types.Com t is.1);
      from_is = λ v is. (tt, refl);
      there = λ v is. refl;
      over = λ source at place over. over;
      over_back = λ source at place over. over;
    }

no_over : (format : Format) (end : ℕ) (source : List ℕ) (at place : ℕ) → (sized_by format end).Over source at place → ⊥
no_over format end source at place (inl over) = over
no_over format end source at place (inr (u, mid, is, keeps, spans, over)) = over

pub exp_via : (format : Format) (end before : ℕ) → Via (type_operands format end before types.Exp) (sized_by format end)
exp_via format end before =
    record {
      into = λ t. (tt, width_of t);
      from = λ v. Exp v.1;
      text = λ t is. ap (type_operands_text end) (is_of types.Exp t is.1);
      is = λ t is. (tt, subst (HasWidthsIn format) (is_of types.Exp t is.1) is.0);
      keeps = λ t is keeps. (tt, tt);
      back = λ t is. sym (is_of types.Exp t is.1);
      from_is = λ v is. (is.1, refl);
      there = λ v is. refl;
      over = λ source at place over. absurd over;
      over_back = λ source at place over. no_over format end source at place over;
    }

pub var_via : (format : Format) (end before : ℕ) → Via (type_operands format end before types.Var) (sized_by format end)
var_via format end before =
    record {
      into = λ t. (tt, width_of t);
      from = λ v. Var v.1;
      text = λ t is. ap (type_operands_text end) (is_of types.Var t is.1);
      is = λ t is. (tt, subst (HasWidthsIn format) (is_of types.Var t is.1) is.0);
      keeps = λ t is keeps. (tt, tt);
      back = λ t is. sym (is_of types.Var t is.1);
      from_is = λ v is. (is.1, refl);
      there = λ v is. refl;
      over = λ source at place over. absurd over;
      over_back = λ source at place over. no_over format end source at place over;
    }

-- the second of two types, behind the first, and both
abbrev pub second_type : (format : Format) → ℕ → ℕ → Type' → Item
second_type format end before a = typed format end (before + shakes a)

abbrev pub both_types : (format : Format) → ℕ → ℕ → Item
both_types format end before = both (typed format 32 (before + 1)) (second_type format end before)

fork_keeps : (before : ℕ) (a b : Type') → before + (shakes a + shakes b) ≤ 64 → (before + 1 + shakes a ≤ 64) × (before + shakes a + shakes b ≤ 64)
fork_keeps before a b keeps = (omega (arith, keeps, shakes_some b), omega (arith, keeps))

pub pair_via : (format : Format) (end before : ℕ) → Via (type_operands format end before types.Pair) (forks format end before)
pair_via format end before =
    record {
      into = λ t. (tt, (left_of t, right_of t));
      from = λ v. Pair v.1.0 v.1.1;
      text = λ t is. ap (type_operands_text end) (is_of types.Pair t is.1);
      is = λ t is. (tt, subst (HasWidthsIn format) (is_of types.Pair t is.1) is.0);
      keeps = λ t is keeps.
          let size : shakes t ≡ shakes (left_of t) + shakes (right_of t) = ap shakes (is_of types.Pair t is.1) ∙ shakes_pair (left_of t) (right_of t) in
          (tt, fork_keeps before (left_of t) (right_of t) (omega (arith, keeps, size)));
      back = λ t is. sym (is_of types.Pair t is.1);
      from_is = λ v is. (is.1, refl);
      there = λ v is. refl;
      over = λ source at place over. over;
      over_back = λ source at place over. over;
    }

pub fun_via : (format : Format) (end before : ℕ) → Via (type_operands format end before types.Fun) (forks format end before)
fun_via format end before =
    record {
      into = λ t. (tt, (left_of t, right_of t));
      from = λ v. Fun v.1.0 v.1.1;
      text = λ t is. ap (type_operands_text end) (is_of types.Fun t is.1);
      is = λ t is. (tt, subst (HasWidthsIn format) (is_of types.Fun t is.1) is.0);
      keeps = λ t is keeps.
          let size : shakes t ≡ shakes (left_of t) + shakes (right_of t) = ap shakes (is_of types.Fun t is.1) ∙ shakes_fun (left_of t) (right_of t) in
          (tt, fork_keeps before (left_of t) (right_of t) (omega (arith, keeps, size)));
      back = λ t is. sym (is_of types.Fun t is.1);
      from_is = λ v is. (is.1, refl);
      there = λ v is. refl;
      over = λ source at place over. over;
      over_back = λ source at place over. over;
    }

-- some type has each word
pub some_operands : (format : Format) (end before : ℕ) (word : TypeWord) → (t : Type') × (type_operands format end before word).Is t
some_operands format end before types.Com = (Com, (tt, refl))
some_operands format end before types.Exp = (Exp 1, ((omega arith, (greatest_is format).0), refl))
some_operands format end before types.Var = (Var 1, ((omega arith, (greatest_is format).0), refl))
some_operands format end before types.Pair = (Pair Com Com, ((tt, tt), refl))
some_operands format end before types.Fun = (Fun Com Com, ((tt, tt), refl))

-- where the operands behind a type's word fail as another item does
pub operands_fail : (format : Format) (end before : ℕ) (w word : TypeWord) → w ≡ word → (A : Item) → Via (type_operands format end before word) A
    → (source : List ℕ) (at : ℕ) (fault : ObjectFault) → Fails A source at fault → Fails (type_operands format end before w) source at fault
operands_fail format end before w word is A via source at fault fails =
    subst (λ (u : TypeWord). Fails (type_operands format end before u) source at fault) (sym is)
    (via_fails (type_operands format end before word) A via source at fault fails)
