-- Overlap, fit and the earliest start as tests that compute, by the distance formula of two spans.
-- Assumes nothing.
use Rattle.std.specs.Prelude.{ℕ, Bool, not, ◌&&◌, List, Option, ◌==◌}
use Rattle.spans.specs.Formula.{shares}
use Rattle.network.specs.Flows.{Hop, Flow}
use Rattle.network.specs.Overlap.{first, starting}
use Rattle.planning.specs.Lists.{any, least}

-- the spans of a flow at a hop share an instant with those of another at a hop on the same port
abbrev pub meets : Flow → Hop → Flow → Hop → Bool
meets f h g i = h.port == i.port && shares (first f h) f.period h.wire (first g i) g.period i.wire

-- two flows overlap
abbrev pub overlaps : Flow → Flow → Bool
overlaps f g = any (λ h. any (λ i. meets f h g i) g.hops) f.hops

-- a flow fits beside the flows
abbrev pub fits : List Flow → Flow → Bool
fits flows f = not (any (λ g. overlaps f g) flows)

-- the earliest start of a flow beside the flows
abbrev pub earliest : List Flow → Flow → Option ℕ
earliest flows f = least (λ s. fits flows (starting s f)) 0 f.period
