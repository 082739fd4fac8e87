-- What receive side scaling reads of a frame's key is what its layers say.
use Rattle.std.proofs.Common.{◌≡◌, ℕ, zero, suc, ◌+◌, ◌-◌, ◌<◌, ◌≤◌, inl, inr, Bool, true, false, Option, Some, None, List, [], ◌∷◌, ◌++◌, length, take, drop, refl, sym, ap, ◌∙◌, subst, arith}
use Rattle.std.proofs.Common.{length-drop}
use Rattle.std.specs.Prelude.{◌==◌, if◌then◌else◌, slice_index}
use Rattle.std.specs.List.{flat_map}
use Rattle.std.proofs.lemmas.List.{length-take, drop_more}
use Rattle.std.proofs.lemmas.Bool.{or_cases, eqb-true}
use Rattle.net_bytes.specs.Bytes.{byte, be16, part}
use Rattle.eth_vlan.specs.Tag.{is_tag}
use Rattle.ip_headers.specs.Ip4.{protocol}
use Rattle.ip_headers.specs.Ip6.{next_header}
use Rattle.tcp_headers.specs.Udp.{destination_port}
use Rattle.vxlan.specs.Vxlan.{port}
use Rattle.vxlan.specs.Gre.{flags as gre_flags}
use Rattle.frame_layout.specs.Shape.{Layout, header, ip4_there, ip6_there, tcp_from, udp_from, carried_from, ip4_from, ip6_from, network_from, typed_from, ethernet_from, vxlan_from, gre_from}
use Rattle.frame_layout.specs.Shape.{outer_from, shape_of}
use Rattle.frame_layout.specs.Key.{flow_part}
use Rattle.frame_layout.specs.Headers.{AtHeaders, IsThere}
use Rattle.frame_layout.specs.Rss.{ports_in, addresses_in, behind_ip, is_tag_mark, behind_tag, from_ip, rss_of, ports_of, rss_in, RssIsOfLayers}
use Rattle.frame_layout.specs.declared.layout.Header.{Header}
use Rattle.frame_layout.specs.declared.layout.Layer.TheVariants.{Ethernet, Tag, Ip4, Ip6, Udp, Gre, KeyedGre, Tcp}
use Rattle.frame_layout.proofs.Listed.{with_header, found}
use Rattle.frame_layout.proofs.Bounds.{placed}
use Rattle.frame_layout.proofs.Keys.{key_some}

pub cut_take : (xs ys : List ℕ) (n : ℕ) → length xs ≡ n → take n (xs ++ ys) ≡ xs
cut_take [] ys zero e = refl
cut_take [] ys (suc n) e = absurd (omega (arith, e))
cut_take (x ∷ xs) ys zero e = absurd (omega (arith, e))
cut_take (x ∷ xs) ys (suc n) e = ap (λ (z : List ℕ). x ∷ z) (cut_take xs ys n (omega (arith, e)))

pub cut_drop : (xs ys : List ℕ) (n : ℕ) → length xs ≡ n → drop n (xs ++ ys) ≡ ys
cut_drop [] ys zero e = refl
cut_drop [] ys (suc n) e = absurd (omega (arith, e))
cut_drop (x ∷ xs) ys zero e = absurd (omega (arith, e))
cut_drop (x ∷ xs) ys (suc n) e = cut_drop xs ys n (omega (arith, e))

pub part_long : (f : List ℕ) (at n : ℕ) → at + n ≤ length f → length (part f at n) ≡ n
part_long f at n h = omega (arith, length-take n (drop at f), length-drop at f)

-- what is read from an IP header on
abbrev read : List ℕ → List ℕ
read key = addresses_in key ++ ports_in (behind_ip key)

abbrev skip : ℕ → List ℕ → List ℕ
skip zero key = key
skip (suc n) key = skip n (behind_tag key)

skip_none : (n : ℕ) (key : List ℕ) → is_tag_mark (slice_index key 0) ≡ false → skip n key ≡ key
skip_none zero key e = refl
skip_none (suc n) key e =
    ap (λ (b : Bool). skip n (if b then drop 4 key else key)) e ∙ skip_none n key e

module _ (f : List ℕ) (bytes : (k : ℕ) → byte f k < 256) where
  abbrev own : List Header → List ℕ
  own hs = flat_map (λ h. flow_part f h.layer h.at) hs

  abbrev There : List Header → Type 0
  There hs = AtHeaders (IsThere (length f)) hs

  record HasPorts (o : Option Layout) : Type 0 where
    at : (l : Layout) → o ≡ Some l → There l.headers → ports_in (own l.headers) ≡ ports_of f l.headers

  record IsRead (o : Option Layout) : Type 0 where
    plain : (l : Layout) → o ≡ Some l → is_tag_mark (slice_index (own l.headers) 0) ≡ false
    reads : (l : Layout) → o ≡ Some l → There l.headers → read (own l.headers) ≡ rss_in f l.headers

  ports_if : (b : Bool) (x y : Option Layout) → HasPorts x → HasPorts y → HasPorts (if b then x else y)
  ports_if true x y a b = a
  ports_if false x y a b = b

  ports_none : HasPorts None
  ports_none = record { at = λ l e. absurd cc }

  ports_udp : (at : ℕ) (there : Bool) (rest : Option Layout) → HasPorts (header Udp at there rest)
  ports_udp at there rest = record {
    at = λ l e.
        let w : (there ≡ true) × ((r : Layout) × (rest ≡ Some r) × (with_header Udp at r ≡ l)) = found Udp at there rest l e in
        subst (λ (z : Layout). There z.headers → ports_in (own z.headers) ≡ ports_of f z.headers) w.1.2
        (λ t. cut_take (part f at 4) (own w.1.0.headers) 4 (part_long f at 4 (omega (arith, t.0.0))));
  }

  ports_tcp : (at : ℕ) (there : Bool) (rest : Option Layout) → HasPorts (header Tcp at there rest)
  ports_tcp at there rest = record {
    at = λ l e.
        let w : (there ≡ true) × ((r : Layout) × (rest ≡ Some r) × (with_header Tcp at r ≡ l)) = found Tcp at there rest l e in
        subst (λ (z : Layout). There z.headers → ports_in (own z.headers) ≡ ports_of f z.headers) w.1.2
        (λ t. cut_take (part f at 4) (own w.1.0.headers) 4 (part_long f at 4 (omega (arith, t.0.0))));
  }

  -- GRE's part of a key begins with 47, and it has no ports
  ports_gre : (at : ℕ) (there : Bool) (rest : Option Layout) → HasPorts (header Gre at there rest)
  ports_gre at there rest = record {
    at = λ l e.
        let w : (there ≡ true) × ((r : Layout) × (rest ≡ Some r) × (with_header Gre at r ≡ l)) = found Gre at there rest l e in
        subst (λ (z : Layout). There z.headers → ports_in (own z.headers) ≡ ports_of f z.headers) w.1.2 (λ t. refl);
  }

  ports_keyed : (at : ℕ) (there : Bool) (rest : Option Layout) → HasPorts (header KeyedGre at there rest)
  ports_keyed at there rest = record {
    at = λ l e.
        let w : (there ≡ true) × ((r : Layout) × (rest ≡ Some r) × (with_header KeyedGre at r ≡ l)) = found KeyedGre at there rest l e in
        subst (λ (z : Layout). There z.headers → ports_in (own z.headers) ≡ ports_of f z.headers) w.1.2 (λ t. refl);
  }

  ports_outer : (protocol at : ℕ) → HasPorts (outer_from f protocol at)
  ports_outer protocol at =
      ports_if (protocol == 17) (if destination_port f at == port then vxlan_from f at else udp_from f at) (if protocol == 47 then gre_from f at else None)
      (ports_if (destination_port f at == port) (vxlan_from f at) (udp_from f at) (ports_udp at _ _) (ports_udp at _ _))
      (ports_if (protocol == 47) (gre_from f at) None (ports_if (gre_flags f at == 0x2000) _ _ (ports_keyed at _ _) (ports_gre at _ _)) ports_none)

  module _ (others : ℕ → ℕ → Option Layout) (inside : (protocol at : ℕ) → HasPorts (others protocol at)) where
    ports_carried : (protocol at : ℕ) → HasPorts (carried_from f others protocol at)
    ports_carried protocol at = ports_if (protocol == 6) (tcp_from f at) (others protocol at) (ports_tcp at _ _) (inside protocol at)

    read_ip4 : (at : ℕ) (there : Bool) (rest : Option Layout) → HasPorts rest → IsRead (header Ip4 at there rest)
    read_ip4 at there rest p = record {
      plain = λ l e.
          let w : (there ≡ true) × ((r : Layout) × (rest ≡ Some r) × (with_header Ip4 at r ≡ l)) = found Ip4 at there rest l e in
          subst (λ (z : Layout). is_tag_mark (slice_index (own z.headers) 0) ≡ false) w.1.2 refl;
      reads = λ l e.
          let w : (there ≡ true) × ((r : Layout) × (rest ≡ Some r) × (with_header Ip4 at r ≡ l)) = found Ip4 at there rest l e in
          subst (λ (z : Layout). There z.headers → read (own z.headers) ≡ rss_in f z.headers) w.1.2
          (λ t.
          let r : Layout = w.1.0 in
          let long : length (part f (at + 12) 8) ≡ 8 = part_long f (at + 12) 8 (omega (arith, t.0.0)) in
          ap (λ (z : List ℕ). z ++ ports_in (drop 8 (part f (at + 12) 8 ++ own r.headers))) (cut_take (part f (at + 12) 8) (own r.headers) 8 long)
          ∙ ap (λ (z : List ℕ). part f (at + 12) 8 ++ ports_in z) (cut_drop (part f (at + 12) 8) (own r.headers) 8 long)
          ∙ ap (λ (z : List ℕ). part f (at + 12) 8 ++ z) (p.at r w.1.1 t.1));
    }

    read_ip6 : (at : ℕ) (there : Bool) (rest : Option Layout) → HasPorts rest → IsRead (header Ip6 at there rest)
    read_ip6 at there rest p = record {
      plain = λ l e.
          let w : (there ≡ true) × ((r : Layout) × (rest ≡ Some r) × (with_header Ip6 at r ≡ l)) = found Ip6 at there rest l e in
          subst (λ (z : Layout). is_tag_mark (slice_index (own z.headers) 0) ≡ false) w.1.2 refl;
      reads = λ l e.
          let w : (there ≡ true) × ((r : Layout) × (rest ≡ Some r) × (with_header Ip6 at r ≡ l)) = found Ip6 at there rest l e in
          subst (λ (z : Layout). There z.headers → read (own z.headers) ≡ rss_in f z.headers) w.1.2
          (λ t.
          let r : Layout = w.1.0 in
          let long : length (part f (at + 8) 32) ≡ 32 = part_long f (at + 8) 32 (omega (arith, t.0.0)) in
          ap (λ (z : List ℕ). z ++ ports_in (drop 32 (part f (at + 8) 32 ++ own r.headers))) (cut_take (part f (at + 8) 32) (own r.headers) 32 long)
          ∙ ap (λ (z : List ℕ). part f (at + 8) 32 ++ ports_in z) (cut_drop (part f (at + 8) 32) (own r.headers) 32 long)
          ∙ ap (λ (z : List ℕ). part f (at + 8) 32 ++ z) (p.at r w.1.1 t.1));
    }

    read_if : (b : Bool) (x y : Option Layout) → IsRead x → IsRead y → IsRead (if b then x else y)
    read_if true x y a b = a
    read_if false x y a b = b

    read_none : IsRead None
    read_none = record { plain = λ l e. let d : None ≡ Some l = e in absurd cc; reads = λ l e. let d : None ≡ Some l = e in absurd cc }

    read_network : (kind at : ℕ) → IsRead (network_from f others kind at)
    read_network kind at =
        read_if (kind == 0x0800) (ip4_from f others at) (if kind == 0x86dd then ip6_from f others at else None) (read_ip4 at (ip4_there f at) (carried_from f others (protocol f at) (at + 20))
        (ports_carried (protocol f at) (at + 20)))
        (read_if (kind == 0x86dd) (ip6_from f others at) None (read_ip6 at (ip6_there f at) (carried_from f others (next_header f at) (at + 40)) (ports_carried (next_header f at) (at + 40)))
        read_none)

    -- the first byte of a tag's type is its mark
    marked : (at : ℕ) → is_tag (be16 f at) ≡ true → is_tag_mark (byte f at) ≡ true
    marked at e = elim (or_cases (be16 f at == 0x8100) (be16 f at == 0x88a8) e) [
      | inl a ↦ ap is_tag_mark (let d : byte f at ≡ 0x81 = omega (arith, eqb-true (be16 f at) 0x8100 a, bytes at, bytes (at + 1)) in d)
      | inr b ↦ ap is_tag_mark (let d : byte f at ≡ 0x88 = omega (arith, eqb-true (be16 f at) 0x88a8 b, bytes at, bytes (at + 1)) in d)
    ]

    record IsSkipped (n : ℕ) (o : Option Layout) : Type 0 where
      reads : (l : Layout) → o ≡ Some l → There l.headers → read (skip n (own l.headers)) ≡ rss_in f l.headers

    skipped_network : (n : ℕ) (o : Option Layout) → IsRead o → IsSkipped n o
    skipped_network n o i = record { reads = λ l e t. ap read (skip_none n (own l.headers) (i.plain l e)) ∙ i.reads l e t }

    skipped_if : (n : ℕ) (b : Bool) (x y : Option Layout) → (b ≡ true → IsSkipped n x) → IsSkipped n y → IsSkipped n (if b then x else y)
    skipped_if n true x y a b = a refl
    skipped_if n false x y a b = b

    skipped_tag : (n at : ℕ) (there : Bool) (rest : Option Layout) → is_tag (be16 f at) ≡ true → IsSkipped n rest → IsSkipped (suc n) (header Tag (at + 2) there rest)
    skipped_tag n at there rest tag i = record {
      reads = λ l e.
          let w : (there ≡ true) × ((r : Layout) × (rest ≡ Some r) × (with_header Tag (at + 2) r ≡ l)) = found Tag (at + 2) there rest l e in
          subst (λ (z : Layout). There z.headers → read (skip (suc n) (own z.headers)) ≡ rss_in f z.headers) w.1.2
          (λ t.
          let r : Layout = w.1.0 in
          let long : length (part f (at + 2 - 2) 4) ≡ 4 = part_long f (at + 2 - 2) 4 (omega (arith, t.0.0)) in
          let first : slice_index (part f (at + 2 - 2) 4 ++ own r.headers) 0 ≡ byte f at =
          ap (λ (z : ℕ). slice_index (take 4 (drop z f) ++ own r.headers) 0) (let d : at + 2 - 2 ≡ at = omega arith in d)
          ∙ ap (λ (z : List ℕ). slice_index (take 4 z ++ own r.headers) 0) (drop_more f at 0 (omega (arith, t.0.0))) in
          ap (λ (b : Bool). read (skip n (if b then drop 4 (part f (at + 2 - 2) 4 ++ own r.headers) else (part f (at + 2 - 2) 4 ++ own r.headers)))) (ap is_tag_mark first ∙ marked at tag)
          ∙ ap (λ (z : List ℕ). read (skip n z)) (cut_drop (part f (at + 2 - 2) 4) (own r.headers) 4 long)
          ∙ i.reads r w.1.1 t.1);
    }

    skipped_typed : (n at : ℕ) → IsSkipped n (typed_from f others n at)
    skipped_typed zero at = skipped_network zero _ (read_network (be16 f at) (at + 2))
    skipped_typed (suc n) at =
        skipped_if (suc n) (is_tag (be16 f at)) _ _ (λ e. skipped_tag n at _ _ e (skipped_typed n (at + 4))) (skipped_network (suc n) _ (read_network (be16 f at) (at + 2)))

    read_ethernet : (l : Layout) → ethernet_from f others 0 ≡ Some l → There l.headers → rss_of (Some (own l.headers)) ≡ rss_in f l.headers
    unfolding rss_of
    read_ethernet l e =
        let w = found Ethernet 0 _ _ l e in
        subst (λ (z : Layout). There z.headers → read (from_ip (own z.headers)) ≡ rss_in f z.headers) w.1.2
        (λ t.
        let r : Layout = w.1.0 in
        ap (λ (z : List ℕ). read (skip 2 z)) (cut_drop (part f 0 12) (own r.headers) 12 (part_long f 0 12 (omega (arith, t.0.0))))
        ∙ (skipped_typed 2 (0 + 12)).reads r w.1.1 t.1)

pub rss_is_of_layers : RssIsOfLayers
unfolding shape_of
rss_is_of_layers f l bytes e =
    let there : AtHeaders (IsThere (length f)) l.headers = (placed f bytes l (sym e)).there in
    ap rss_of (sym (key_some f l (sym e)))
    ∙ read_ethernet f bytes (outer_from f) (ports_outer f bytes) l e there
