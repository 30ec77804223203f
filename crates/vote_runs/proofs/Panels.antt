-- A panel that is not refused has a lawful poll.
use Rattle.std.proofs.Common.{◌≡◌, ◌<◌, ◌≤◌, ◌*◌, ◌==◌, ◌&&◌, ℕ, List, true, Option, None, Some, inl, inr, refl, length, nat_le, nat_lt, sum_by, arith}
use Rattle.std.proofs.lemmas.Bool.Decides.{nat_tests}
use Rattle.std.proofs.lemmas.List.Sums.{sum-map}
use Rattle.px_base.specs.declared.voter.Voter.{Voter}
use Rattle.voters.specs.Marks.{voter_weight}
use Rattle.voters.specs.Panel.{Roster, first_repeated, panel_refusal, poll_of, threshold_refusal}
use Rattle.voters.specs.Rule.{IsPoll}
use Rattle.voters.specs.declared.panel.PanelRefusal.{PanelRefusal}
use Rattle.voters.specs.declared.panel.PanelRefusal.TheVariants as refusal
use Rattle.px_cluster.specs.Refusals.{of_panel}
use Rattle.cluster_form.proofs.Lists.{bool, both_left, both_right}

-- what refuses no threshold has it within the bounds
within : (total threshold : ℕ) (repeated : Option (List ℕ))
    → threshold_refusal total threshold repeated ≡ None
    → (threshold ≤ total) × (total < 2 * threshold)
within total threshold (Some name) is =
    absurd (let z : Some (refusal.DuplicateVoter name) ≡ None = is in cc)
within total threshold None is =
    elim (bool (nat_le threshold total && nat_lt total (2 * threshold))) [
      | inl holds ↦ (
        (let reaches : nat_le threshold total ≡ true =
            both_left (nat_le threshold total) (nat_lt total (2 * threshold)) holds in
            grind (arith, nat_tests)),
        (let above : nat_lt total (2 * threshold) ≡ true =
            both_right (nat_le threshold total) (nat_lt total (2 * threshold)) holds in
            grind (arith, nat_tests)),
      )
      | inr fails ↦ absurd (let z : Some (refusal.BadThreshold total threshold) ≡ None =
          rw fails at is in cc)
    ]

-- so has what refuses no panel
pub poll_lawful : (voters : List Voter) (threshold : ℕ) → panel_refusal voters threshold ≡ None
    → let panel : Roster = record { voters = voters; threshold = threshold } in
    IsPoll (poll_of panel)
poll_lawful voters threshold none = elim (bool (length voters == 0)) [
  | inl holds ↦ absurd (let z : Some refusal.NoVoters ≡ None = rw holds at none in cc)
  | inr some ↦ elim (bool (nat_lt 64 (length voters))) [
    | inl holds ↦ absurd (let z : Some (refusal.TooManyVoters (length voters)) ≡ None =
        rw holds at (rw some at none) in cc)
    | inr few ↦ (let is = within (sum_by voter_weight voters) threshold (first_repeated voters)
        (rw few at (rw some at none)) in record {
          reachable = omega (arith, is.0, sum-map voter_weight voters);
          most = omega (arith, is.1, sum-map voter_weight voters);
        })
  ]
]

-- by the rule no panel is refused for want of memory
by_memory : (voters : List Voter) (threshold : ℕ)
    → panel_refusal voters threshold ≡ Some refusal.Memory → ⊥
by_memory voters threshold is = elim (bool (length voters == 0)) [
  | inl holds ↦ (let z : Some refusal.NoVoters ≡ Some refusal.Memory = rw holds at is in cc)
  | inr some ↦ elim (bool (nat_lt 64 (length voters))) [
    | inl holds ↦ (let z : Some (refusal.TooManyVoters (length voters)) ≡ Some refusal.Memory =
        rw holds at (rw some at is) in cc)
    | inr few ↦ by_threshold (sum_by voter_weight voters) (first_repeated voters)
        (rw few at (rw some at is))
  ]
]
  where
    by_threshold : (total : ℕ) (repeated : Option (List ℕ))
        → threshold_refusal total threshold repeated ≡ Some refusal.Memory → ⊥
    by_threshold total (Some name) is_ =
        (let z : Some (refusal.DuplicateVoter name) ≡ Some refusal.Memory = is_ in cc)
    by_threshold total None is_ =
        elim (bool (nat_le threshold total && nat_lt total (2 * threshold))) [
          | inl holds ↦ (let z : None ≡ Some refusal.Memory = rw holds at is_ in cc)
          | inr fails ↦ (let z : Some (refusal.BadThreshold total threshold) ≡ Some refusal.Memory =
              rw fails at is_ in cc)
        ]

-- .. so where an opening is not refused for its panel, nothing refuses that
pub not_refused : (voters : List Voter) (threshold : ℕ)
    → of_panel (panel_refusal voters threshold) ≡ None → panel_refusal voters threshold ≡ None
not_refused voters threshold is =
    by (panel_refusal voters threshold) (by_memory voters threshold) is
  where
    by : (found : Option PanelRefusal) → (found ≡ Some refusal.Memory → ⊥)
        → of_panel found ≡ None → found ≡ None
    by None other none = refl
    by (Some refusal.NoVoters) other none = absurd (cc)
    by (Some (refusal.TooManyVoters count)) other none = absurd (cc)
    by (Some (refusal.DuplicateVoter name)) other none = absurd (cc)
    by (Some (refusal.BadThreshold total most)) other none = absurd (cc)
    by (Some refusal.Memory) other none = absurd (other refl)
