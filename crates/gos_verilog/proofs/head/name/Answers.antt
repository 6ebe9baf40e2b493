use Rattle.std.proofs.Common.{◌≡◌, ◌∷◌, ◌++◌, List, ℕ, drop, sym, ap, ◌∙◌}
use Rattle.gos_verilog.proofs.head.name.Goals as goal

pub returns-in_err-word-clause-stands : goal.returns-in_err-word-clause-stands
returns-in_err-word-clause-stands c bytes end x are ends left =
    let here : drop c.at.result c.args.text.now ≡ bytes ++ (end ∷ x) = (λ i. drop (c.at.ensures.at i) (sym c.requires i)) ∙ left in
    let name = c.name_at-name.ensures bytes end x are ends here in
    absurd (c.in_err-word.ensures.stands (end ∷ x) (left ∙ ap (λ (b : List ℕ). b ++ (end ∷ x)) (sym name)))

pub returns-clause-stands : goal.returns-clause-stands
returns-clause-stands c bytes end x are ends left =
    let here : drop c.at.result c.args.text.now ≡ bytes ++ (end ∷ x) = (λ i. drop (c.at.ensures.at i) (sym c.requires i)) ∙ left in
    let name = c.name_at-name.ensures bytes end x are ends here in
    (name, c.in_ok-word.ensures.stands (end ∷ x) (left ∙ ap (λ (b : List ℕ). b ++ (end ∷ x)) (sym name)))
