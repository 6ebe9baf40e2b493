use Rattle.std.proofs.Common.{◌≡◌, ◌∷◌, ◌++◌, ◌-◌, List, ℕ, length, take, drop, ap, ◌∙◌}
use Rattle.std.specs.List.{prefix_len}
use Rattle.gos_lex.specs.Bytes.{continues_name}
use Rattle.gos_lex.proofs.PlaceLemmas.{rest_whole}
use Rattle.gos_verilog.proofs.RestLemmas.{front_is}
use Rattle.gos_verilog.proofs.head.name_at.Goals as goal

pub returns : goal.returns
returns c bytes end x are ends left =
    let text = c.args.text.now in
    let rest : List ℕ = take (length text - c.args.at) (drop c.args.at text) in
    let whole : rest ≡ bytes ++ (end ∷ x) = rest_whole text c.args.at ∙ left in
    ap (λ (n : ℕ). take n rest) c.name_length.ensures ∙ ((λ i. take (prefix_len continues_name (whole i)) (whole i)) ∙ front_is bytes end x are ends)
