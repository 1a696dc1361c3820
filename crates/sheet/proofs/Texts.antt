-- The text of a flow: its route port by port, and its parts joined.
use Rattle.std.proofs.Common.{◌≡◌, ℕ, ◌+◌, ◌<◌, List, [], ◌∷◌, ◌++◌, length, get_or, take, codes, decimal, sym, ap, ◌∙◌, append_assoc}
use Rattle.std.proofs.lemmas.List.{append-nil, take_more}
use Rattle.sheet.specs.declared.flow.FlowRecord.{FlowRecord}
use Rattle.sheet.specs.Texts.{start_text, route_text, flow_text}

route_text_push : (qs : List ℕ) (q : ℕ) → route_text (qs ++ q ∷ []) ≡ route_text qs ++ (codes " " ++ decimal q)
route_text_push [] q = ap (λ (t : List ℕ). codes " " ++ t) (append-nil (decimal q))
route_text_push (p ∷ ps) q =
    ap (λ (t : List ℕ). codes " " ++ (decimal p ++ t)) (route_text_push ps q)
    ∙ ap (λ (t : List ℕ). codes " " ++ t) (sym (append_assoc (decimal p) (route_text ps) (codes " " ++ decimal q)))

-- one port more
pub route_text_more :
    (qs : List ℕ) (i : ℕ) → i < length qs → route_text (take i qs) ++ (codes " " ++ decimal (get_or qs i 0)) ≡ route_text (take (i + 1) qs)
route_text_more qs i h = sym (ap route_text (take_more qs i 0 h) ∙ route_text_push (take i qs) (get_or qs i 0))

-- what stands before the route
abbrev pub before_route : FlowRecord → List ℕ
before_route x =
    codes "flow "
    ++ (decimal x.number
    ++ (codes ": length "
    ++ (decimal x.length
    ++ (codes ", period "
    ++ (decimal x.period
    ++ (codes " ns, deadline "
    ++ (decimal x.deadline ++ (codes " ns, start " ++ (start_text x.start ++ codes ", route")))))))))

regroup :
    (a b c d e f g h i j k r : List ℕ)
    → (a ++ (b ++ (c ++ (d ++ (e ++ (f ++ (g ++ (h ++ (i ++ (j ++ k)))))))))) ++ r
    ≡ a ++ (b ++ (c ++ (d ++ (e ++ (f ++ (g ++ (h ++ (i ++ (j ++ (k ++ r))))))))))
regroup a b c d e f g h i j k r = simp append_assoc

pub flow_text-parts : (x : FlowRecord) → before_route x ++ route_text (take x.hops x.ports) ≡ flow_text x
flow_text-parts x =
    regroup (codes "flow ") (decimal x.number) (codes ": length ") (decimal x.length) (codes ", period ") (decimal x.period)
    (codes " ns, deadline ") (decimal x.deadline) (codes " ns, start ") (start_text x.start) (codes ", route")
    (route_text (take x.hops x.ports))
