-- How nodes lead on.
use Rattle.std.proofs.Common.{◌≡◌, ℕ, zero, suc, ◌<◌, ◌≤◌, List, length, eqb, true, false, ◌||◌, ◌⊎◌, inl, inr, refl, ap, sym, ◌∙◌, subst, arith}
use Rattle.call_graph.specs.declared.graph.Node.{Node}
use Rattle.call_graph.specs.Calls.{calls_at, leads}
use Rattle.call_graph.proofs.Found.{In, or_left, or_right, or_cases, found, found_by, eqb_same, eqb_itself}
use Rattle.call_graph.proofs.Nodes.{calls_below}

pub leads_none : (g : List Node) (f h : ℕ) → leads g 0 f h ≡ true → ⊥
unfolding leads
leads_none g f h t = let wrong : false ≡ true = t in cc

-- the first call
pub leads_by : (g : List Node) (k f h c : ℕ) → In (calls_at g f) c → (c ≡ h) ⊎ (leads g k c h ≡ true) → leads g (suc k) f h ≡ true
unfolding leads
leads_by g k f h c m e =
    found_by (λ x. eqb x h || leads g k x h) (calls_at g f) c m
    (elim e [
      | inl s ↦ or_left (eqb c h) (leads g k c h) (ap (λ x. eqb x h) s ∙ eqb_itself h)
      | inr t ↦ or_right (eqb c h) (leads g k c h) t
    ])

pub leads_cases : (g : List Node) (k f h : ℕ) → leads g (suc k) f h ≡ true → (c : ℕ) × (In (calls_at g f) c) × ((c ≡ h) ⊎ (leads g k c h ≡ true))
unfolding leads
leads_cases g k f h t =
    let r = found (λ x. eqb x h || leads g k x h) (calls_at g f) t in
    (r.0, r.1, elim (or_cases (eqb r.0 h) (leads g k r.0 h) r.2) [ inl s ↦ inl (eqb_same r.0 h s) | inr u ↦ inr u ])

pub leads_more : (g : List Node) (k m f h : ℕ) → k ≤ m → leads g k f h ≡ true → leads g m f h ≡ true
leads_more g zero m f h le t = absurd (leads_none g f h t)
leads_more g (suc k) zero f h le t = absurd (omega arith)
leads_more g (suc k) (suc m) f h le t =
    let r = leads_cases g k f h t in
    leads_by g m f h r.0 r.1 (elim r.2 [ inl s ↦ inl s | inr u ↦ inr (leads_more g k m r.0 h (omega arith) u) ])

-- the last call
pub leads_on : (g : List Node) (k f h c : ℕ) → leads g k f h ≡ true → In (calls_at g h) c → leads g (suc k) f c ≡ true
leads_on g zero f h c t m = absurd (leads_none g f h t)
leads_on g (suc k) f h c t m =
    let r = leads_cases g k f h t in
    leads_by g (suc k) f c r.0 r.1
    (inr (elim r.2 [
      | inl s ↦ leads_by g k r.0 c c (subst (λ x. In (calls_at g x) c) (sym s) m) (inl refl)
      | inr u ↦ leads_on g k r.0 h c u m
    ]))

pub leads_below : (g : List Node) (k f h : ℕ) → leads g k f h ≡ true → f < length g
leads_below g zero f h t = absurd (leads_none g f h t)
leads_below g (suc k) f h t = let r = leads_cases g k f h t in calls_below g f r.0 r.1
