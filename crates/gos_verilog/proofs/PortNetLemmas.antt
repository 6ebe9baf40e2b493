-- Where the roles are at an end, so are the nets.
use Rattle.std.proofs.Common.{◌≡◌, ℕ, zero, suc, ◌≤◌, List, [], ◌∷◌, length, drop, refl, arith}
use Rattle.gos_netlist.specs.Nets.{Side}
use Rattle.gos_verilog.specs.declared.port_net.Role.{Role}
use Rattle.gos_verilog.specs.PortNets.{nets_in_roles}

none_in_no_role : (name : List ℕ) (side : Side) (w : ℕ) (cells : List ℕ) → nets_in_roles name side w cells [] ≡ []
none_in_no_role name side w [] = refl
none_in_no_role name side w (cell ∷ cells) = refl

pub none_past_roles : (name : List ℕ) (side : Side) (w k : ℕ) (cells : List ℕ) (roles : List Role) → length roles ≤ k → nets_in_roles name side w cells (drop k roles) ≡ []
none_past_roles name side w zero cells [] past = none_in_no_role name side w cells
none_past_roles name side w (suc k) cells [] past = none_in_no_role name side w cells
none_past_roles name side w zero cells (role ∷ roles) past = absurd (omega (arith, past))
none_past_roles name side w (suc k) cells (role ∷ roles) past = none_past_roles name side w k cells roles (omega (arith, past))
