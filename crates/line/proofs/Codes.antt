-- An Ethernet line that is filled means what its rate codes say.
-- Assumes nothing.
use Rattle.std.proofs.Common.{◌≡◌, ℕ, ◌+◌, ◌*◌, ◌<◌, Bool, true, false, ltb, List, map, length, get_or, sym, refl, ap, ◌∙◌}
use Rattle.std.proofs.lemmas.List.{get_or-map}
use Rattle.std.proofs.lemmas.Bool.{ltb-true, cond-false}
use Rattle.line.specs.declared.ethernet.Ethernet.{Ethernet}
use Rattle.line.specs.declared.ethernet.Rate.{Rate}
use Rattle.line.specs.declared.ethernet.Rate.TheVariants.{Mb10, Mb100, Mb1000}
use Rattle.line.specs.Codes.{rate, coded}
use Rattle.line.specs.Fillings.{Coded}
use Rattle.line.specs.Kinds.{ethernet_meaning}
use Rattle.line.specs.Times.{carried, code, octet, ethernet_time}

-- the rate of a rate's code
rate_of-code : (r : Rate) → rate (code r) ≡ r
rate_of-code Mb10 = refl
rate_of-code Mb100 = refl
rate_of-code Mb1000 = refl

-- a line with these codes is the line of them
pub coded-is : (cs : List ℕ) (x : Ethernet) → Coded cs x → ethernet_meaning x ≡ coded cs
coded-is cs x is = λ i. record { ports = is.ports i; time = λ q l. time q l i }
  where
    rated : (q : ℕ) → q < length cs → get_or x.rates q Mb10 ≡ get_or (map rate cs) q Mb10
    rated q below = sym (rate_of-code (get_or x.rates q Mb10)) ∙ ap rate (is.rates q below) ∙ sym (get_or-map rate cs q 0 Mb10 below)

    go : (q l : ℕ) (b : Bool) → ltb q (length cs) ≡ b → ethernet_time (length cs) x.rates q l ≡ ethernet_time (length cs) (map rate cs) q l
    go q l true below = ap (λ (r : Rate). carried (length cs) 1522 q l ((l + 8) * octet r)) (rated q (ltb-true q (length cs) below))
    go q l false over = cond-false (ltb q (length cs)) _ 0 over ∙ sym (cond-false (ltb q (length cs)) _ 0 over)

    time : (q l : ℕ) → ethernet_time x.ports x.rates q l ≡ ethernet_time (length cs) (map rate cs) q l
    time q l = ap (λ (n : ℕ). ethernet_time n x.rates q l) is.ports ∙ go q l (ltb q (length cs)) refl
