use Rattle.std.proofs.Common.{◌≡◌, ℕ, ◌+◌, ◌*◌, ◌/◌, ◌%◌, ◌^◌, List, [], ◌∷◌, ◌++◌, take, drop, ap, ◌∙◌}
use borrow.Rule.Slice.PartMut.{put_mid}
use Rattle.sheet.specs.Fields.{octets}
use Rattle.sheet.specs.FlowsLemmas.{flow-octets}
use Rattle.sheet.specs.Packed.{octets_last}
use Rattle.sheet.proofs.flow.FlowRecord.to_octets.Goals as goal

pub returns : goal.returns
returns c =
    let h : ℕ = c.head.result in
    let r : ℕ = c.packed_route-route.result in
    let from : (h * 8) % 2 ^ 128 + c.from.result ≡ (h * 8) % 2 ^ 128 + r / 2 ^ 37
    = ap (λ (y : ℕ). (h * 8) % 2 ^ 128 + y) c.from.ensures in
    let first : c.copy_from_slice.new.self ≡ octets 16 ((h * 8) % 2 ^ 128 + r / 2 ^ 37)
    = c.copy_from_slice.ensures.after ∙ c.to_be_bytes.ensures ∙ octets_last 15 _ ∙ ap (octets 16) from in
    let second : c.copy_from_slice-2.new.self ≡ octets 5 ((r * 8) % 2 ^ 64)
    = c.copy_from_slice-2.ensures.after ∙ ap (λ (l : List ℕ). take 5 (drop 3 l)) c.to_be_bytes-2.ensures ∙ octets_last 4 _ in
    record {
      value =
          (λ i. put_mid 16 5 (first i ++ (0 ∷ 0 ∷ 0 ∷ 0 ∷ 0 ∷ [])) (second i))
          ∙ flow-octets c.args.self.now h r c.head.ensures.value c.packed_route-route.ensures.value c.head.ensures.bound c.packed_route-route.ensures.bound;
    }
