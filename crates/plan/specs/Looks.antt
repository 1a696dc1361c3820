-- What is seen from a place of a port: for how long a span that covers it goes on, and how far off the next first instant is.
-- Assumes nothing.
use Rattle.std.specs.Prelude.{ℕ, ◌-◌, min, max, cond, List, [], ◌∷◌, ◌==◌}
use Rattle.spans.specs.Places.{ahead}
use Rattle.network.specs.Flows.{Hop, Flow}
use Rattle.network.specs.Overlap.{first}

-- the numbers of the hops on port q taken together, as by max or min: m where there is none
abbrev pub of_hops : (ℕ → ℕ → ℕ) → ℕ → (Hop → ℕ) → ℕ → List Hop → ℕ
of_hops both m number q [] = m
of_hops both m number q (h ∷ hs) = both (cond (h.port == q) (number h) m) (of_hops both m number q hs)

abbrev pub of_flows : (ℕ → ℕ → ℕ) → ℕ → (Flow → Hop → ℕ) → ℕ → List Flow → ℕ
of_flows both m number q [] = m
of_flows both m number q (f ∷ fs) = both (of_hops both m (number f) q f.hops) (of_flows both m number q fs)

-- for how many places from y on a span of a flow at a hop goes on that covers y, 0 if none does
abbrev pub left_at : ℕ → Flow → Hop → ℕ
left_at y f h = h.wire - ahead f.period y (first f h)

-- how far the next first instant of a flow's spans at a hop lies after y
abbrev pub next_at : ℕ → Flow → Hop → ℕ
next_at y f h = ahead f.period (first f h) y

-- the same for all hops on port q: the greatest, and the least, which is 2 ^ 32 - 1 where there is no hop
abbrev pub left_on : List Flow → ℕ → ℕ → ℕ
left_on flows q y = of_flows max 0 (left_at y) q flows

abbrev pub next_on : List Flow → ℕ → ℕ → ℕ
next_on flows q y = of_flows min 0xffff_ffff (next_at y) q flows
