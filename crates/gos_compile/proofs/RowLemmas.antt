-- Rows of points grow at their end; and how many handshakes a type has.
use Rattle.std.specs.Prelude.{◌≡◌, ℕ, zero, suc, ◌+◌, ◌*◌, ◌^◌, ◌<◌, ◌≤◌, length, List, [], ◌∷◌, ◌++◌}
use Rattle.std.proofs.Common.{refl, ap, ◌∙◌, append_assoc, arith}
use Rattle.std.proofs.lemmas.List.{length-map}
use Rattle.gos_types.specs.Types.{Type', Com, Exp, Var, Pair, Fun, size}
use Rattle.gos_types.specs.Handshakes.{handshakes_of}
use Rattle.gos_check.specs.Nodes.{argument_of}
use Rattle.gos_ties.specs.declared.points.Place.{Place}
use Rattle.gos_ties.specs.declared.points.Point.{Point}
use Rattle.gos_realises.specs.realises.Regular.{count}
use Rattle.gos_ties.specs.Ties.{point}
use Rattle.gos_realises.proofs.realises.CountLemmas.{count_pair, count_fun}
use Rattle.gos_compile.specs.Wiring.{row}
use Rattle.gos_compile.specs.inner.Loads.{most}

row_longer : (place : Place) (h n k : ℕ) → k ≡ h + n → row place h n ++ point place k ∷ [] ≡ row place h (suc n)
row_longer place h zero k e = ap (λ (g : ℕ). point place g ∷ []) (let f : k ≡ h = omega (arith, e) in f)
row_longer place h (suc n) k e = ap (λ (ps : List Point). point place h ∷ ps) (row_longer place (suc h) n k (omega (arith, e)))

-- one point more
pub row_more : (place : Place) (n m : ℕ) (start points : List Point) → m ≡ n + 1 → points ≡ start ++ row place 0 n
    → points ++ point place n ∷ [] ≡ start ++ row place 0 m
row_more place n m start points e is =
    let f : m ≡ suc n = omega (arith, e) in
    rw (is, f) (append_assoc start (row place 0 n) (point place n ∷ []) ∙ ap (λ (ps : List Point). start ++ ps) (row_longer place 0 n n (omega arith)))

pub argument_fewer : (t : Type') → count (argument_of t) ≤ count t
argument_fewer Com = omega arith
argument_fewer (Exp w) = omega arith
argument_fewer (Var w) = omega arith
argument_fewer (Pair a b) = omega arith
argument_fewer (Fun a b) = let all = count_fun a b in omega (arith, all)

-- a type has fewer nodes than twice its handshakes
nodes_below : (t : Type') → size t < 2 * count t
nodes_below Com = omega arith
nodes_below (Exp w) = omega arith
nodes_below (Var w) = omega arith
nodes_below (Pair a b) = let all = count_pair a b in let one = nodes_below a in let other = nodes_below b in omega (arith, all, one, other)
nodes_below (Fun a b) = let all = count_fun a b in let one = nodes_below a in let other = nodes_below b in omega (arith, all, one, other)

-- so a type of few handshakes has few nodes
pub few_nodes : (t : Type') → count t ≤ most → size t < 2 ^ 32
few_nodes t few = let nodes = nodes_below t in omega (arith, nodes, few)

-- the handshakes of a type are counted alike
pub same_length : (t : Type') → length (handshakes_of t) ≡ count t
same_length t = simp length-map refl
