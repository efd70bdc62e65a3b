-- A history with a turn isn't empty, and an outlet stays the same from turn to turn
use Rattle.shared_office.proofs.Names.{◌≡◌, List, [], ◌∷◌, ◌++◌, length, Option, Some, None, length-append, ap, ◌∙◌, arith, Entry, MomentRing}
use Rattle.moment_ring.specs.Ends.{SameOutlet}

pub turned : {X : Type 0} (history : List Entry) (entry : Entry) → history ++ entry ∷ [] ≡ [] → X
turned history entry none =
    let long = length-append history (entry ∷ []) in let short = ap (λ (h : List Entry). length h) none in absurd (omega arith)

-- the same end as one that is the same
pub outlet_on : (a b c : Option MomentRing) → SameOutlet a b → SameOutlet b c → SameOutlet a c
outlet_on None None None one other = tt
outlet_on None (Some q) c one other = absurd one
outlet_on (Some p) None c one other = absurd one
outlet_on a None (Some r) one other = absurd other
outlet_on a (Some q) None one other = absurd other
outlet_on (Some p) (Some q) (Some r) one other =
    ((other.0.0 ∙ one.0.0, other.0.1 ∙ one.0.1, other.0.2 ∙ one.0.2, other.0.3 ∙ one.0.3), other.1 ∙ one.1)
