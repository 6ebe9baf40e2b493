-- The four groups of cells stand one behind the other; and the choice in which all directions keep registers.
use Rattle.std.specs.Prelude.{Result, Ok, Err, IfOk}
use Rattle.std.proofs.Common.{◌≡◌, ◌∙◌, ◌++◌, List, [], ap, append_assoc}
use Rattle.gos_netlist.specs.Nets.{Cell}

-- four groups placed one behind the other, at first behind nothing
pub four_groups : (a b c d s w x y z : List Cell) → s ≡ [] → w ≡ s ++ a → x ≡ w ++ b → y ≡ x ++ c → z ≡ y ++ d → z ≡ a ++ (b ++ (c ++ d))
four_groups a b c d s w x y z none one two three four =
    let first : w ≡ a = one ∙ ap (λ (u : List Cell). u ++ a) none in
    let second : x ≡ a ++ b = two ∙ ap (λ (u : List Cell). u ++ b) first in
    let third : y ≡ (a ++ b) ++ c = three ∙ ap (λ (u : List Cell). u ++ c) second in
    four ∙ (ap (λ (u : List Cell). u ++ d) third ∙ (append_assoc (a ++ b) c d ∙ append_assoc a b (c ++ d)))

-- a fact of what a call gives, from two others
pub both_then : {X E : Type 0} (r : Result X E) {P Q R : X → Type 0} → IfOk r P → IfOk r Q → ((x : X) → P x → Q x → R x) → IfOk r R
both_then (Ok x) p q f = f x p q
both_then (Err e) p q f = tt
