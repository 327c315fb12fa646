mod Macs
