-- Ports whose nets go to others.
use Rattle.std.specs.Prelude.{◌≡◌, ℕ, zero, suc, ◌<◌, List, [], ◌∷◌, ◌++◌, map, Contains}
use Rattle.std.proofs.Common.{arith, refl, sym, ap, subst, ◌∙◌}
use Rattle.std.proofs.lemmas.List.Elements.{Contains-append_left, Contains-append_right}
use Rattle.std.proofs.lemmas.Option.{same_Some}
use Rattle.gos_netlist.specs.Nets.{NetPort}
use Rattle.gos_netcheck.specs.Rules.{Kept}
use Rattle.gos_tidy.specs.Ends.{with_nets}
use Rattle.gos_tidy.specs.inner.Places.{port_nets}

head_in : (x : ℕ) (xs : List ℕ) → Contains (x ∷ xs) x
head_in x xs = (0, omega arith, refl)

later_in : (x : ℕ) (xs : List ℕ) (a : ℕ) → Contains xs a → Contains (x ∷ xs) a
later_in x xs a (i, inside, is) = (suc i, omega (arith, inside), is)

back_nets : (f g h : ℕ → ℕ) (nets : List ℕ) → ((n : ℕ) → Contains nets n → g (f n) ≡ h n) → map g (map f nets) ≡ map h nets
back_nets f g h [] b = refl
back_nets f g h (n ∷ nets) b = λ j. b n (head_in n nets) j ∷ back_nets f g h nets (λ a there. b a (later_in n nets a there)) j

-- nets that go on, and back to where others go
pub back_ports : (f g h : ℕ → ℕ) (ports : List NetPort) → ((n : ℕ) → Contains (port_nets ports) n → g (f n) ≡ h n)
    → map (with_nets g) (map (with_nets f) ports) ≡ map (with_nets h) ports
back_ports f g h [] b = refl
back_ports f g h (p ∷ ports) b = λ j.
    record p { nets = back_nets f g h p.nets (λ n there. b n (Contains-append_left p.nets (port_nets ports) n there)) j }
    ∷ back_ports f g h ports (λ n there. b n (Contains-append_right p.nets (port_nets ports) n there)) j

nets_below : (f : ℕ → ℕ) (count : ℕ) (nets : List ℕ) → ((n : ℕ) → Contains nets n → f n < count) → Kept (λ _ n. n < count) (map f nets)
nets_below f count [] b k n is = absurd (cc)
nets_below f count (m ∷ nets) b zero n is = subst (λ (x : ℕ). x < count) (same_Some (f m) n is) (b m (head_in m nets))
nets_below f count (m ∷ nets) b (suc k) n is = nets_below f count nets (λ a there. b a (later_in m nets a there)) k n is

-- nets that go to some of so many
pub ports_below : (f : ℕ → ℕ) (count : ℕ) (ports : List NetPort) → ((n : ℕ) → Contains (port_nets ports) n → f n < count)
    → Kept (λ _ p. Kept (λ _ n. n < count) p.nets) (map (with_nets f) ports)
ports_below f count [] b k p is = absurd (cc)
ports_below f count (q ∷ ports) b zero p is =
    subst (λ (x : NetPort). Kept (λ _ n. n < count) x.nets) (same_Some (with_nets f q) p is)
    (nets_below f count q.nets (λ n there. b n (Contains-append_left q.nets (port_nets ports) n there)))
ports_below f count (q ∷ ports) b (suc k) p is =
    ports_below f count ports (λ n there. b n (Contains-append_right q.nets (port_nets ports) n there)) k p is

map_append : (f : ℕ → ℕ) (xs ys : List ℕ) → map f (xs ++ ys) ≡ map f xs ++ map f ys
map_append f [] ys = refl
map_append f (x ∷ xs) ys = ap (λ (zs : List ℕ). f x ∷ zs) (map_append f xs ys)

-- the nets of ports whose nets go to others
pub port_nets_moved : (f : ℕ → ℕ) (ports : List NetPort) → port_nets (map (with_nets f) ports) ≡ map f (port_nets ports)
port_nets_moved f [] = refl
port_nets_moved f (p ∷ ports) = ap (λ (zs : List ℕ). map f p.nets ++ zs) (port_nets_moved f ports) ∙ sym (map_append f p.nets (port_nets ports))

pub map_twice : (f g : ℕ → ℕ) (xs : List ℕ) → map g (map f xs) ≡ map (λ n. g (f n)) xs
map_twice f g [] = refl
map_twice f g (x ∷ xs) = ap (λ (zs : List ℕ). g (f x) ∷ zs) (map_twice f g xs)
