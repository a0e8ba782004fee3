-- The order of edges.
use Rattle.sedck_flow.proofs.Common.{◌≡◌, arith, kind_index, IsEarlier, Edge, Kind}

pub kind_same : (k l : Kind) → kind_index k ≡ kind_index l → k ≡ l
kind_same k l e = grind arith

-- no edge is earlier than itself
pub never_earlier : (e : Edge) → IsEarlier e e → ⊥
never_earlier e h = grind arith

pub earlier-trans : (e f g : Edge) → IsEarlier e f → IsEarlier f g → IsEarlier e g
earlier-trans e f g h k = grind arith
