use Rattle.std.proofs.Common.{◌≡◌, ◌++◌, ◌∷◌, ◌≤◌, ℕ, List, drop, refl, sym, ◌∙◌, arith}
use Rattle.std.specs.Prelude.{codes}
use Rattle.std.specs.Fmt.{decimal}
use Rattle.gos_lex.specs.Items.{TextAt}
use Rattle.gos_netlist.specs.Nets.{Input}
use Rattle.gos_verilog.specs.inner.Stages.{Rest}
use Rattle.gos_verilog.specs.inner.Noted.{IsLineOf}
use Rattle.gos_verilog.proofs.LineLemmas.{source_parts}
use Rattle.gos_verilog.proofs.driven.source_name.Goals as goal

-- what stands behind the word for a continuous assignment
abbrev behind_word : ℕ → List ℕ → List ℕ → List ℕ
behind_word i name x = decimal i ++ (32 ∷ (codes "= " ++ (name ++ (codes ";\n" ++ x))))

begins : (cursor : TextAt) (rest : List ℕ) (i : ℕ) (name x : List ℕ) → cursor.text ≡ rest → cursor.at ≡ 0 → IsLineOf rest i 1 Input name x → Rest cursor (codes "  assign n" ++ behind_word i name x)
begins cursor rest i name x text at line = (λ j. drop (at j) (text j)) ∙ (line.is ∙ source_parts i 1 name x)

exact : (i : ℕ) → i ≤ i
exact i = omega arith

at_place : (cursor : TextAt) (rest bytes : List ℕ) (at : ℕ) → cursor.text ≡ rest → at ≡ cursor.at → Rest cursor bytes → drop at rest ≡ bytes
at_place cursor rest bytes at text same left = (λ j. drop (same j) (sym text j)) ∙ left

pub returns-in_err-ended_number : goal.returns-in_err-ended_number
returns-in_err-ended_number c =
    record {
      stands = λ name x line.
          let i = c.args.i in
          let one = c.in_ok-pass.ensures.stands (behind_word i name x) (begins c.new-cursor.result c.args.rest.now i name x c.new-cursor.ensures.text c.new-cursor.ensures.at line) in
          absurd (c.in_err-ended_number.ensures.stands i (codes "= " ++ (name ++ (codes ";\n" ++ x))) (exact i) (exact i) one);
    }

pub returns-in_err-pass-2 : goal.returns-in_err-pass-2
returns-in_err-pass-2 c =
    record {
      stands = λ name x line.
          let i = c.args.i in
          let one = c.in_ok-pass.ensures.stands (behind_word i name x) (begins c.new-cursor.result c.args.rest.now i name x c.new-cursor.ensures.text c.new-cursor.ensures.at line) in
          let two = c.in_ok-ended_number.ensures.stands i (codes "= " ++ (name ++ (codes ";\n" ++ x))) (exact i) (exact i) one in
          absurd (c.in_err-pass-2.ensures.stands (name ++ (codes ";\n" ++ x)) two.1);
    }

pub returns : goal.returns
returns c =
    record {
      stands = λ name x line.
          let i = c.args.i in
          let rest = c.args.rest.now in
          let one = c.in_ok-pass.ensures.stands (behind_word i name x) (begins c.new-cursor.result rest i name x c.new-cursor.ensures.text c.new-cursor.ensures.at line) in
          let two = c.in_ok-ended_number.ensures.stands i (codes "= " ++ (name ++ (codes ";\n" ++ x))) (exact i) (exact i) one in
          let three = c.in_ok-pass-2.ensures.stands (name ++ (codes ";\n" ++ x)) two.1 in
          let text : c.pass-2.new.cursor.text ≡ rest = c.in_ok-pass-2.ensures.text ∙ (c.in_ok-ended_number.ensures.text ∙ (c.in_ok-pass.ensures.text ∙ c.new-cursor.ensures.text)) in
          c.name_at.ensures name 59 (10 ∷ x) (line.named refl).bytes refl (at_place c.pass-2.new.cursor rest (name ++ (codes ";\n" ++ x)) c.at.result text c.at.ensures.at three);
    }
