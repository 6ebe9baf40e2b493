use Rattle.std.proofs.Common.{◌≡◌, ◌++◌, ◌∷◌, ℕ, List, Some, Bor, slice_get, sym, ◌∙◌, ap, map}
use Rattle.std.specs.Prelude.{codes, true, false}
use Rattle.gos_lex.specs.Items.{TextAt}
use Rattle.gos_verilog.specs.PortNets.{PortNet}
use Rattle.gos_verilog.specs.inner.Stages.{Rest, listed}
use Rattle.gos_verilog.proofs.DeclarationLemmas.{follows}
use Rattle.gos_verilog.proofs.HeadLemmas.{next_name, names_more, no_name_left, values}
use Rattle.gos_verilog.proofs.head.names.Goals as goal

-- a comma stands at the cursor
comma_at : (text : List ℕ) (at : ℕ) (cursor : TextAt) → cursor.text ≡ text → at ≡ cursor.at → slice_get text at ≡ Some 44 → slice_get cursor.text cursor.at ≡ Some 44
comma_at text at cursor same place is = (λ i. slice_get (same i) (sym place i)) ∙ is

-- the name behind a comma, and what ends it
behind_name : (mid : TextAt) (net : PortNet) (left : List PortNet) (x : List ℕ) → Rest mid (net.name ++ (listed left ++ 41 ∷ x))
    → Rest mid (net.name ++ ((follows left x).0 ∷ (follows left x).1))
behind_name mid net left x stands = stands ∙ ap (λ (rest : List ℕ). net.name ++ rest) (follows left x).2

pub returns-in_err-word-clause-stands : goal.returns-in_err-word-clause-stands
returns-in_err-word-clause-stands c nets x have stands =
    let now : TextAt = c.loop-cursor.cursor in
    let comma = comma_at c.args.text.now c.at.result now c.loop-cursor.invariant.text c.at.ensures.at (c.is_at.ensures.0 c.loop-cursor-test.true) in
    let next = next_name c.args.cursor.now now c.loop-cursor.names.items nets x c.loop-cursor.invariant.far comma have stands in
    absurd (c.in_err-word.ensures.stands (next.net.name ++ (listed next.left ++ (codes ")" ++ x))) next.stands)

pub returns-in_err-name-clause-stands : goal.returns-in_err-name-clause-stands
returns-in_err-name-clause-stands c nets x have stands =
    let now : TextAt = c.loop-cursor.cursor in
    let comma = comma_at c.args.text.now c.at.result now c.loop-cursor.invariant.text c.at.ensures.at (c.is_at.ensures.0 c.loop-cursor-test.true) in
    let next = next_name c.args.cursor.now now c.loop-cursor.names.items nets x c.loop-cursor.invariant.far comma have stands in
    let mid = c.in_ok-word.ensures.stands (next.net.name ++ (listed next.left ++ (codes ")" ++ x))) next.stands in
    let end = follows next.left x in
    absurd (c.in_err-name.ensures.stands next.net.name end.0 end.1 next.bytes end.3 (behind_name c.word.new.cursor next.net next.left x mid))

pub loop-cursor-preserved : goal.loop-cursor-preserved
loop-cursor-preserved c =
    record {
      text = c.in_ok-name.ensures.text;
      far = λ nets x have stands.
          let now : TextAt = c.loop-cursor.cursor in
          let comma = comma_at c.args.text.now c.at.result now c.loop-cursor.invariant.text c.at.ensures.at (c.is_at.ensures.0 c.loop-cursor-test.true) in
          let next = next_name c.args.cursor.now now c.loop-cursor.names.items nets x c.loop-cursor.invariant.far comma have stands in
          let mid = c.in_ok-word.ensures.stands (next.net.name ++ (listed next.left ++ (codes ")" ++ x))) next.stands in
          let end = follows next.left x in
          let known = c.in_ok-name.ensures.stands next.net.name end.0 end.1 next.bytes end.3 (behind_name c.word.new.cursor next.net next.left x mid) in
          let more = names_more now c.word.new.cursor c.name.new.cursor c.loop-cursor.names.items c.in_ok-name.field-0 nets x next known.0 (known.1 ∙ sym end.2) in
          (more.0, more.1, more.2, ap (λ (names : List (Bor (List ℕ))). values names ++ map (λ (n : PortNet). n.name) more.0) c.in_ok-push.ensures.items ∙ more.3);
    }

pub returns-clause-stands : goal.returns-clause-stands
returns-clause-stands c nets x have stands =
    let now : TextAt = c.loop-cursor.cursor in
    no_name_left c.args.cursor.now now c.loop-cursor.names.items nets x c.loop-cursor.invariant.far
    (λ comma.
    let there : slice_get c.args.text.now c.at.result ≡ Some 44 = (λ i. slice_get (sym c.loop-cursor.invariant.text i) (c.at.ensures.at i)) ∙ comma in
    let both : false ≡ true = sym c.loop-cursor-test.false ∙ c.is_at.ensures.1 there in
    cc both)
    have stands
