use Rattle.network_xml.proofs.Reading.{ip_fails, mode_fails, network_reads, uuid_fails}
use Rattle.network_xml.proofs.network.network_of.Goals as goal

pub returns-in-Err-optional_uuid : goal.returns-in-Err-optional_uuid
returns-in-Err-optional_uuid c =
    uuid_fails _ c.in-Err-optional_uuid.fault _ _ _ c.text_called.ensures c.in-Ok.ensures c.text_called-2.ensures c.in-Err-optional_uuid.ensures

pub returns-in-Err-optional_mode : goal.returns-in-Err-optional_mode
returns-in-Err-optional_mode c =
    mode_fails _ c.in-Err-optional_mode.fault _ _ _ _ _ c.text_called.ensures c.in-Ok.ensures c.text_called-2.ensures c.in-Ok-optional_uuid.ensures
    c.mode_in.ensures c.in-Err-optional_mode.ensures

pub returns-in-Err-optional_ip : goal.returns-in-Err-optional_ip
returns-in-Err-optional_ip c =
    ip_fails _ c.in-Err-optional_ip.fault _ _ _ _ _ _ _ c.text_called.ensures c.in-Ok.ensures c.text_called-2.ensures c.in-Ok-optional_uuid.ensures
    c.mode_in.ensures c.in-Ok-optional_mode.ensures c.first_called.ensures c.in-Err-optional_ip.ensures

pub returns-in-Ok-bridge_in : goal.returns-in-Ok-bridge_in
returns-in-Ok-bridge_in c =
    network_reads _ _ _ _ _ _ _ _ _ _ c.text_called.ensures c.in-Ok.ensures c.text_called-2.ensures c.in-Ok-optional_uuid.ensures
    c.mode_in.ensures c.in-Ok-optional_mode.ensures c.first_called.ensures c.in-Ok-optional_ip.ensures c.in-Ok-bridge_in.ensures
