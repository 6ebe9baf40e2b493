-- Where no tie leads from a dot, no way does.
use Rattle.std.proofs.Common.{◌≡◌, List, refl}
use Rattle.gos_joining.specs.webs.Webs.{Dot, Tie, Meet, Way, here, along}
use Rattle.gos_nodes.specs.folds.Folds.{UnmetIsAlone}

-- from a dot that meets nothing there is no way but to itself
pub unmet_way : (ts : List Tie) (a b : Dot) → Way ts a b → ((x : Dot) → Meet ts a x → ⊥) → b ≡ a
unmet_way ts a b (here d) unmet = refl
unmet_way ts a b (along d c z meets way) unmet = absurd (unmet c meets)

pub unmet_is_alone : UnmetIsAlone
unmet_is_alone v c e unmet own d k at way = own d k at (unmet_way v.ties (v.at e) (v.at d) way unmet)
