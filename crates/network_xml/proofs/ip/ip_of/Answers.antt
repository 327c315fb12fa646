use Rattle.network_xml.proofs.Reading.{dhcp_fails, ip_reads, prefix_fails}
use Rattle.network_xml.proofs.ip.ip_of.Goals as goal

pub returns-in-Err-prefix_of : goal.returns-in-Err-prefix_of
returns-in-Err-prefix_of c =
    prefix_fails _ c.in-Err-prefix_of.fault _ _ _ _ c.value_called.ensures c.in-Ok.ensures c.value_called-mask.ensures c.value_called-number.ensures c.in-Err-prefix_of.ensures

pub returns-in-Ok-optional_dhcp : goal.returns-in-Ok-optional_dhcp
returns-in-Ok-optional_dhcp c =
    ip_reads _ _ _ _ _ _ _ _ c.value_called.ensures c.in-Ok.ensures c.value_called-mask.ensures c.value_called-number.ensures c.in-Ok-prefix_of.ensures
    c.first_called.ensures c.in-Ok-optional_dhcp.ensures

pub returns-in-Err-optional_dhcp : goal.returns-in-Err-optional_dhcp
returns-in-Err-optional_dhcp c =
    dhcp_fails _ c.in-Err-optional_dhcp.fault _ _ _ _ _ _ c.value_called.ensures c.in-Ok.ensures c.value_called-mask.ensures c.value_called-number.ensures c.in-Ok-prefix_of.ensures
    c.first_called.ensures c.in-Err-optional_dhcp.ensures
